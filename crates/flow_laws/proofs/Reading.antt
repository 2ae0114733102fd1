-- Where a flow waits: what is read, or nothing, is the next move.
use Rattle.std.proofs.Common.{◌≡◌, ◌≢◌, ℕ, suc, ◌-◌, List, [], ◌∷◌, ◌++◌, length, take, drop, take-append-drop}
use Rattle.std.proofs.Common.{length-drop, refl, sym, ap, ◌∙◌, subst, Bool, true, false, arith}
use Rattle.std.proofs.lemmas.Bool.{lt-ltb, le-ltb}
use Rattle.std.specs.Prelude.{if◌then◌else◌, nat_lt}
use Rattle.stream_frames.specs.Fed.{Fed}
use Rattle.stream_grammar.specs.machine.Reading.{reading_after, taken}
use Rattle.stream_grammar.specs.declared.item.Limits.{Limits}
use Rattle.conn_asks.specs.declared.ended.Ended.{Ended}
use Rattle.conn_asks.specs.declared.ended.Ended.TheVariants as ended
use Rattle.conn_flow.specs.declared.phase.Phase.{Phase}
use Rattle.conn_flow.specs.declared.phase.Phase.TheVariants.{Resting, Pulling, Parting}
use Rattle.conn_flow.specs.declared.talk.Talk.{Talk}
use Rattle.stream_frames.specs.Limits.{limits}
use Rattle.conn_flow.specs.Moves.{Hears, Waits, Hangs}
use Rattle.conn_flow.specs.Duties.{Site, Rest, Pulls, ends, is_idle}
use Rattle.conn_flow.specs.Following.{GoesOn}
use Rattle.conn_flow.specs.Flows.{heard_at, is_late, late_at, waited}
use Rattle.flow_laws.specs.Standing.{IsReadAt, IsServed, IsTimed, Place, duty, duty_at, is_some_byte, known}
use Rattle.flow_laws.specs.Steps.{hangs_at, hears_at, lates_at, waits_at}
use Rattle.flow_laws.proofs.Places.{Suits, place}

-- what is shown of a place where the flow waits for more
pub bring_rest : (P : Place → Type 0) (p : Place) → p.flow.talk.phase ≡ Resting
    → P (place p.flow.fed p.flow.talk Resting p.stream p.front p.ahead p.owed) → P p
bring_rest P p at k = subst (λ (x : Phase). P (place p.flow.fed p.flow.talk x p.stream p.front p.ahead p.owed)) (sym at) k

-- and where nothing is left of what was read, nor is anything owed
pub bring_idle : (P : Place → Type 0) (p : Place) → p.flow.talk.phase ≡ Resting → p.ahead ≡ [] → p.owed ≡ []
    → P (place p.flow.fed p.flow.talk Resting p.stream p.front [] []) → P p
bring_idle P p at ahead owed k =
    bring_rest P p at
    (subst (λ (x : List ℕ). P (place p.flow.fed p.flow.talk Resting p.stream p.front x p.owed)) (sym ahead)
    (subst (λ (x : List ℕ). P (place p.flow.fed p.flow.talk Resting p.stream p.front [] x)) (sym owed) k))

-- a connection that ends goes by nothing that was read
parting : (o : Site) (f : Fed) (s : Talk) (stream front : List ℕ) (t : ℕ) (x : Ended) → IsServed o (place f s Resting stream front [] [])
    → IsServed o (place f (record s { moment = t }) (Parting x) stream front [] [])
parting o f s stream front t x h = record {
  told = tt;
  loaded = tt;
  event_fits = h.event_fits;
  purpose_fits = h.purpose_fits;
  line = h.line;
  domain = h.domain;
  limits_are = h.limits_are;
  more = h.more;
  read = tt;
  all = tt;
  timed = tt;
}

-- Bytes are heard.

left_over : (n most : ℕ) (rest : List ℕ) → length rest ≡ most - n → nat_lt n most ≡ is_some_byte rest
left_over n most [] e = le-ltb n most (let k : 0 ≡ most - n = e in omega arith)
left_over n most (b ∷ bytes) e = lt-ltb n most (let k : suc (length bytes) ≡ most - n = e in omega arith)

timed_now : (ahead : List ℕ) (t : ℕ) → IsTimed ahead t t
timed_now [] t = tt
timed_now (b ∷ bytes) t = refl

hears_served : (o : Site) (f : Fed) (s : Talk) (stream front ahead owed bytes : List ℕ) (t : ℕ) → IsServed o (place f s Resting stream front ahead owed)
    → IsServed o (hears_at (place f s Resting stream front ahead owed) t bytes)
hears_served o f s stream front ahead owed bytes t h =
    let n : ℕ = taken f.limits f.reading bytes in
    let parts : take n bytes ++ drop n bytes ≡ bytes = take-append-drop n bytes in
    record {
      told = tt;
      loaded = tt;
      event_fits = h.event_fits;
      purpose_fits = h.purpose_fits;
      line = h.line;
      domain = h.domain;
      limits_are = h.limits_are;
      more = left_over n (length bytes) (drop n bytes) (length-drop n bytes);
      read = record {
        before = f.reading;
        was = h.read.read;
        front_is =
            ap (λ (l : Limits). take (taken l f.reading bytes) bytes) h.limits_are
            ∙ ap (λ (x : List ℕ). take (taken limits f.reading x) x) (sym parts);
        now = ap (λ (l : Limits). reading_after l f.reading (take n bytes)) h.limits_are;
      };
      all = tt;
      timed = timed_now (drop n bytes) t;
    }

abbrev pub AreHeard : List ℕ → ℕ → Site → Place → Type 0
AreHeard bytes t o p =
    IsServed o p → bytes ≢ [] → is_late p.flow.talk t ≡ false → GoesOn o (duty o p) (Hears bytes t) (duty o (hears_at p t bytes)) × IsServed o
    (hears_at p t bytes)

pub hears_now : (o : Site) (f : Fed) (s : Talk) (stream front bytes : List ℕ) (t : ℕ) → AreHeard bytes t o (place f s Resting stream front [] [])
hears_now o f s stream front bytes t h some early =
    let n : ℕ = taken f.limits f.reading bytes in
    let now : Talk = heard_at s t n (length bytes) in (
      (
        refl,
        refl,
        some,
        ap (λ (x : List ℕ). known now stream [] (Rest x ∷ [])) (take-append-drop n bytes)
            ∙ ap (λ (late : Bool). if late then ends o (known (late_at s t) stream [] []) (ended.Idle t) else known now stream [] (Rest bytes ∷ []))
            (sym early),
      ),
      hears_served o f s stream front [] [] bytes t h,
    )

-- Bytes come too late for a login.

abbrev pub AreLate : List ℕ → ℕ → Site → Place → Type 0
AreLate bytes t o p =
    IsServed o p → bytes ≢ [] → is_late p.flow.talk t ≡ true → GoesOn o (duty o p) (Hears bytes t) (duty o (lates_at p t)) × IsServed o (lates_at p t)

pub lates_now : (o : Site) (f : Fed) (s : Talk) (stream front bytes : List ℕ) (t : ℕ) → AreLate bytes t o (place f s Resting stream front [] [])
lates_now o f s stream front bytes t h some late =
    let now : Talk = heard_at s t 0 0 in (
      (
        refl,
        refl,
        some,
        ap (λ (b : Bool). if b then ends o (known (late_at s t) stream [] []) (ended.Idle t) else known now stream [] (Rest bytes ∷ [])) (sym late),
      ),
      parting o f s stream front t (ended.Idle t) h,
    )

abbrev pub AreHeardOn : Site → Place → Type 0
AreHeardOn o p =
    IsServed o p → p.ahead ≢ []
    → (duty o (hears_at p p.flow.talk.moment p.ahead) ≡ duty o p) × IsServed o (hears_at p p.flow.talk.moment p.ahead)

pub hears_on_now : (o : Site) (f : Fed) (s : Talk) (stream front ahead owed : List ℕ) → AreHeardOn o (place f s Resting stream front ahead owed)
hears_on_now o f s stream front [] owed h some = absurd (some refl)
hears_on_now o f s stream front (b ∷ bytes) owed h some =
    let n : ℕ = taken f.limits f.reading (b ∷ bytes) in
    let now : Talk = heard_at s s.moment n (length (b ∷ bytes)) in (
      ap (λ (x : List ℕ). known now stream owed (Rest x ∷ [])) (take-append-drop n (b ∷ bytes))
          ∙ ap (λ (u : ℕ). record (known s stream owed (Rest (b ∷ bytes) ∷ [])) { heard = u }) (sym h.timed),
      hears_served o f s stream front (b ∷ bytes) owed (b ∷ bytes) s.moment h,
    )

-- Nothing comes.

waits_due : (o : Site) (s : Talk) (stream front : List ℕ) (t : ℕ) (late : Bool)
    → duty_at o s stream front [] [] (if late then Parting (ended.Idle t) else Pulling)
    ≡ (if late then ends o (known s stream [] []) (ended.Idle t) else known s stream [] (Pulls ∷ []))
waits_due o s stream front t true = refl
waits_due o s stream front t false = refl

late_suits : (f : Fed) (s : Talk) (stream front : List ℕ) (t : ℕ) (late : Bool) → IsReadAt Resting f.reading stream front []
    → Suits f.reading s stream front [] (if late then Parting (ended.Idle t) else Pulling)
late_suits f s stream front t true read = record { told = tt; loaded = tt; read = tt; all = tt }
late_suits f s stream front t false read = record { told = tt; loaded = tt; read = read; all = refl }

abbrev pub IsQuiet : ℕ → Site → Place → Type 0
IsQuiet t o p = IsServed o p → GoesOn o (duty o p) (Waits t) (duty o (waits_at p t)) × IsServed o (waits_at p t)

pub waits_now : (o : Site) (f : Fed) (s : Talk) (stream front : List ℕ) (t : ℕ) → IsQuiet t o (place f s Resting stream front [] [])
waits_now o f s stream front t h =
    let now : Talk = waited (record s { phase = Resting }) t in
    let late : Bool = is_idle s.stage s.opened s.heard t in
    let fits : Suits f.reading now stream front [] (if late then Parting (ended.Idle t) else Pulling) = late_suits f now stream front t late h.read in (
      (refl, refl, waits_due o now stream front t late),
      record {
        told = fits.told;
        loaded = fits.loaded;
        event_fits = h.event_fits;
        purpose_fits = h.purpose_fits;
        line = h.line;
        domain = h.domain;
        limits_are = h.limits_are;
        more = h.more;
        read = fits.read;
        all = fits.all;
        timed = tt;
      },
    )

-- The link is at its end.

abbrev pub IsHung : ℕ → Site → Place → Type 0
IsHung t o p = IsServed o p → GoesOn o (duty o p) (Hangs t) (duty o (hangs_at p t)) × IsServed o (hangs_at p t)

pub hangs_now : (o : Site) (f : Fed) (s : Talk) (stream front : List ℕ) (t : ℕ) → IsHung t o (place f s Resting stream front [] [])
hangs_now o f s stream front t h = ((refl, refl, refl), parting o f s stream front t ended.Hung h)
