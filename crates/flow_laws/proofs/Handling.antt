-- What a flow handles before it wants something was due.
use Rattle.std.proofs.Common.{◌≡◌, ℕ, ◌+◌, List, [], ◌∷◌, ◌++◌, take, drop, take-append-drop, refl, sym, ap, ◌∙◌, subst, false, Option, Some, None, arith}
use Rattle.stream_frames.specs.Fed.{Fed}
use Rattle.stream_grammar.specs.machine.Reading.{Reading, reads, stopped, first_reading, handed, is_stopped, reading_after, taken, waiting, went}
use Rattle.stream_grammar.specs.grammar.Bounds.{told_number}
use Rattle.stream_grammar.specs.declared.item.Item.{Item}
use Rattle.stream_grammar.specs.declared.item.Item.TheVariants as item
use Rattle.account_book.specs.Lists.{Book}
use Rattle.conn_asks.specs.declared.asked.Asked.{Asked}
use Rattle.conn_asks.specs.declared.asked.Asked.TheVariants as asked
use Rattle.conn_asks.specs.declared.stage.Stage.{Stage}
use Rattle.conn_asks.specs.declared.stage.Purpose.{Purpose}
use Rattle.conn_asks.specs.declared.stage.Purpose.TheVariants.{Challenge, Bind, Enable}
use Rattle.conn_asks.specs.Asking.{Asks}
use Rattle.conn_flow.specs.declared.phase.Phase.{Phase}
use Rattle.conn_flow.specs.declared.phase.Phase.TheVariants.{Resting, Heard, Saying, Refusing, Drawing, Drawn, Entering, Entered, LoggingIn}
use Rattle.conn_flow.specs.declared.phase.Phase.TheVariants.{LoggedIn, PullingOnce, Pulling, Sweeping, Parting, Left}
use Rattle.conn_flow.specs.declared.talk.Talk.{Talk}
use Rattle.stream_frames.specs.Limits.{limits}
use Rattle.conn_flow.specs.Streams.{Cut, cut}
use Rattle.conn_flow.specs.Moves.{Takes}
use Rattle.conn_flow.specs.Duties.{AsksIf, Due, Rest, Site, asked_due, numbered}
use Rattle.conn_flow.specs.Following.{rest_due}
use Rattle.conn_flow.specs.Flows.{Prepares, State, asked_by, counted, drawn_if}
use Rattle.conn_flow.specs.Flows as flow
use Rattle.flow_laws.specs.Standing.{IsDone, IsHeard, IsServed, Place, duty, duty_at, known}
use Rattle.flow_laws.specs.Steps.{Comes, handling}
use Rattle.flow_laws.proofs.Bytes.{cut_as, cut_by, cut_is, cut_item, cut_read, cut_whole, handed_goes, handed_is_ready, none_goes, read_on}
use Rattle.flow_laws.proofs.Fitting.{IsAskedFit, asks_fits, item_fits}
use Rattle.flow_laws.proofs.Places.{StandsAt, Suits, end_due_same, place, served, site, stands, with_event, with_purpose}

-- What was heard is the bytes up to the end of their first item.

cancel : (xs ys zs : List ℕ) → xs ++ ys ≡ xs ++ zs → ys ≡ zs
cancel [] ys zs e = e
cancel (x ∷ xs) ys zs e = cancel xs ys zs (let k : x ∷ (xs ++ ys) ≡ x ∷ (xs ++ zs) = e in cc)

abbrev heard_as : Reading → List ℕ → List ℕ → List ℕ → Cut
heard_as reading stream front ahead = cut_as (waiting reading) (stream ++ front) ahead

heard_cut : (reading : Reading) (stream front ahead : List ℕ) → IsHeard reading stream front ahead
    → cut stream (front ++ ahead) ≡ heard_as reading stream front ahead
heard_cut reading stream front ahead h =
    let n : ℕ = taken limits h.before (front ++ ahead) in
    let same : take n (front ++ ahead) ≡ front = sym h.front_is in
    let rest : drop n (front ++ ahead) ≡ ahead =
    cancel front (drop n (front ++ ahead)) ahead (ap (λ (x : List ℕ). x ++ drop n (front ++ ahead)) h.front_is ∙ take-append-drop n (front ++ ahead)) in
    let waits : waiting (reading_after limits h.before (take n (front ++ ahead))) ≡ waiting reading =
    ap (λ (x : List ℕ). waiting (reading_after limits h.before x)) same ∙ ap waiting (sym h.now) in
    let all : cut_by stream (front ++ ahead) h.before n ≡ heard_as reading stream front ahead =
    cut_is waits (ap (λ (x : List ℕ). stream ++ x) same) rest in
    cut_read (front ++ ahead) stream h.before h.was ∙ all

heard_on : (reading : Reading) (stream front ahead : List ℕ) → IsHeard reading stream front ahead
    → handed reading ≡ handed (went limits first_reading (stream ++ front))
heard_on reading stream front ahead h =
    let n : ℕ = taken limits h.before (front ++ ahead) in
    ap handed h.now
    ∙ ap (λ (x : List ℕ). handed (reading_after limits h.before x)) h.front_is
    ∙ read_on (front ++ ahead) stream h.before h.was
    ∙ ap (λ (x : List ℕ). handed (went limits first_reading (stream ++ x))) (sym h.front_is)

heard_done : (reading : Reading) (stream front ahead : List ℕ) → IsHeard reading stream front ahead → is_stopped reading ≡ false
    → IsDone (handed reading) (stream ++ front) []
heard_done reading stream front ahead h goes =
    record { none = refl; read = record { at = heard_on reading stream front ahead h; ready = handed_is_ready reading; goes = handed_goes reading goes } }

-- After a fault of the stream nothing is read any more, and the connection ends.

abbrev pub IsOnAfter : Asked → Reading → Type 0
IsOnAfter (asked.End x) reading = Unit {0}
IsOnAfter a reading = is_stopped reading ≡ false

on_after : (a : Asked) (reading : Reading) → is_stopped reading ≡ false → IsOnAfter a reading
on_after asked.Header reading h = h
on_after (asked.Invite m) reading h = h
on_after (asked.Fail f) reading h = h
on_after (asked.LogIn user success) reading h = h
on_after (asked.Draw purpose) reading h = h
on_after (asked.RefuseResource id) reading h = h
on_after (asked.Submit event) reading h = h
on_after (asked.End x) reading h = tt

goes_after : (reading : Reading) (w : ℕ) (domain : List ℕ) (n t : ℕ) (stage : Stage) (i : Item) (a : Asked) → waiting reading ≡ Some i
    → Asks w domain n t stage i a → IsOnAfter a reading
goes_after (reads f b m k) w domain n t stage i a e asks = on_after a (reads f b m k) refl
goes_after (stopped f k) w domain n t stage i a e asks =
    let is : item.Broken f k ≡ i = some_is e in
    subst (λ (x : Asked). IsOnAfter x (stopped f k)) (sym (subst (λ (x : Item). Asks w domain n t stage x a) (sym is) asks)) tt
  where
    some_is : {x y : Item} → Some x ≡ Some y → x ≡ y
    some_is k = cc

-- What an item asks for.

asked_goes : (accounts : Book) (s : Talk) (stream ahead owed : List ℕ) (due : List Due) (a : Asked)
    → duty_at (site s accounts) (asked_by (counted s) a) stream [] ahead owed (asked_by (counted s) a).phase
    ≡ asked_due (site s accounts) (numbered (known s stream owed due)) a (rest_due ahead)
asked_goes accounts s stream ahead owed due asked.Header = refl
asked_goes accounts s stream ahead owed due (asked.Invite m) = refl
asked_goes accounts s stream ahead owed due (asked.Fail f) = refl
asked_goes accounts s stream ahead owed due (asked.LogIn user success) = refl
asked_goes accounts s stream ahead owed due (asked.Draw purpose) = refl
asked_goes accounts s stream ahead owed due (asked.RefuseResource id) = refl
asked_goes accounts s stream ahead owed due (asked.Submit event) = refl
asked_goes accounts s stream ahead owed due (asked.End x) =
    ap (λ (ds : List Due). record (numbered (known s stream owed due)) { due = ds })
    (end_due_same (site s accounts) (numbered (known s stream owed due)) [] owed x)

asked_suits : (s : Talk) (reading : Reading) (stream front ahead : List ℕ) (a : Asked) → IsHeard reading stream front ahead → IsOnAfter a reading
    → Suits (handed reading) (asked_by (counted s) a) (stream ++ front) [] ahead (asked_by (counted s) a).phase
asked_suits s reading stream front ahead asked.Header h on =
    record { told = tt; loaded = tt; read = heard_done reading stream front ahead h on; all = tt }
asked_suits s reading stream front ahead (asked.Invite m) h on =
    record { told = tt; loaded = tt; read = heard_done reading stream front ahead h on; all = tt }
asked_suits s reading stream front ahead (asked.Fail f) h on =
    record { told = tt; loaded = tt; read = heard_done reading stream front ahead h on; all = tt }
asked_suits s reading stream front ahead (asked.LogIn user success) h on =
    record { told = tt; loaded = tt; read = heard_done reading stream front ahead h on; all = tt }
asked_suits s reading stream front ahead (asked.Draw purpose) h on =
    record { told = tt; loaded = tt; read = heard_done reading stream front ahead h on; all = tt }
asked_suits s reading stream front ahead (asked.RefuseResource id) h on =
    record { told = tt; loaded = tt; read = heard_done reading stream front ahead h on; all = tt }
asked_suits s reading stream front ahead (asked.Submit event) h on =
    record { told = tt; loaded = tt; read = heard_done reading stream front ahead h on; all = tt }
asked_suits s reading stream front ahead (asked.End x) h on = record { told = tt; loaded = tt; read = tt; all = tt }

asked_stands : (o : Site) (f : Fed) (s : Talk) (ahead : List ℕ) (a : Asked) → IsAskedFit o.line a → StandsAt o f s ahead
    → StandsAt o f (asked_by (counted s) a) ahead
asked_stands o f s ahead asked.Header fits h = h
asked_stands o f s ahead (asked.Invite m) fits h = h
asked_stands o f s ahead (asked.Fail x) fits h = h
asked_stands o f s ahead (asked.LogIn user success) fits h = h
asked_stands o f s ahead (asked.RefuseResource id) fits h = h
asked_stands o f s ahead (asked.End x) fits h = h
asked_stands o f s ahead (asked.Draw purpose) fits h = with_purpose o f s ahead (Some purpose) fits h
asked_stands o f s ahead (asked.Submit event) fits h = with_event o f s ahead (Some event) fits h

item_handled : (accounts : Book) (f : Fed) (s : Talk) (stream front ahead owed : List ℕ) (s' : State) (i : Option Item) → waiting f.reading ≡ i
    → IsServed (site s accounts) (place f s Heard stream front ahead owed)
    → flow.Takes (record s { phase = Heard }) i s'.talk → s'.fed ≡ record f { reading = handed f.reading }
    → Comes (site s accounts) (place f s Heard stream front ahead owed) s'
item_handled accounts f s stream front ahead owed s' None e h talk_is fed_is =
    let o : Site = site s accounts in
    let fed : s'.fed ≡ record f { reading = handed f.reading } = fed_is in
    let talk : s'.talk ≡ record s { phase = Pulling } = talk_is in
    let cuts : cut stream (front ++ ahead) ≡ cut_as None (stream ++ front) ahead =
    heard_cut f.reading stream front ahead h.read
    ∙ ap (λ (x : Option Item). cut_as x (stream ++ front) ahead) e in
    let empty : ahead ≡ [] = sym (ap (λ (c : Cut). c.rest) cuts) ∙ cut_whole (front ++ ahead) stream (ap (λ (c : Cut). c.item) cuts) in
    let to : Place = place (record f { reading = handed f.reading }) s Pulling (stream ++ front) [] ahead owed in
    let goes : AsksIf o (known s (stream ++ front) owed (Rest (front ++ ahead) ∷ [])) None (rest_due ahead) (duty o to) =
    ap (λ (x : List ℕ). known s (stream ++ front) owed (rest_due x)) (sym empty) in
    record {
      to = to;
      moves = Takes ∷ [];
      flow_is = λ j. record { fed = sym fed j; talk = sym talk j };
      ahead_is = refl;
      owed_is = refl;
      through = (
        duty o to,
        subst (λ (c : Cut). AsksIf o (known s c.stream owed (Rest (front ++ ahead) ∷ [])) c.item (rest_due c.rest) (duty o to))
            (sym cuts) goes,
        refl,
      );
      silent = record { marks_none = refl; turns_none = refl; moments_none = refl; draws_none = refl; takes = tt };
      counted = omega arith;
      served = served o to (stands o (place f s Heard stream front ahead owed) h)
          (record { told = tt; loaded = tt; read = heard_done f.reading stream front ahead h.read (none_goes f.reading e); all = empty });
    }
item_handled accounts f s stream front ahead owed s' (Some i) e h (a, asks, talk_is) fed_is =
    let o : Site = site s accounts in
    let t : Talk = record s { phase = Heard } in
    let fed : s'.fed ≡ record f { reading = handed f.reading } = fed_is in
    let talk : s'.talk ≡ asked_by (counted t) a = talk_is in
    let cuts : cut stream (front ++ ahead) ≡ cut_as (Some i) (stream ++ front) ahead =
    heard_cut f.reading stream front ahead h.read
    ∙ ap (λ (x : Option Item). cut_as x (stream ++ front) ahead) e in
    let fits : IsAskedFit s.line a =
    asks_fits s.line s.domain (told_number (s.number + 1)) s.moment s.stage i a
    (item_fits (cut stream (front ++ ahead)).stream i (cut_item (front ++ ahead) stream i (ap (λ (c : Cut). c.item) cuts))) asks in
    let on : IsOnAfter a f.reading = goes_after f.reading s.line s.domain (told_number (s.number + 1)) s.moment s.stage i a e asks in
    let to : Place =
    record {
      flow = record { fed = record f { reading = handed f.reading }; talk = asked_by (counted t) a };
      stream = stream ++ front;
      front = [];
      ahead = ahead;
      owed = owed;
    } in
    let goes : AsksIf o (known s (stream ++ front) owed (Rest (front ++ ahead) ∷ [])) (Some i) (rest_due ahead) (duty o to) =
    (a, asks, asked_goes accounts t (stream ++ front) ahead owed (Rest (front ++ ahead) ∷ []) a) in
    record {
      to = to;
      moves = Takes ∷ [];
      flow_is = λ j. record { fed = sym fed j; talk = sym talk j };
      ahead_is = refl;
      owed_is = refl;
      through = (
        duty o to,
        subst (λ (c : Cut). AsksIf o (known s c.stream owed (Rest (front ++ ahead) ∷ [])) c.item (rest_due c.rest) (duty o to))
            (sym cuts) goes,
        refl,
      );
      silent = record { marks_none = refl; turns_none = refl; moments_none = refl; draws_none = refl; takes = tt };
      counted = omega arith;
      served = served o to (asked_stands o f t ahead a fits (stands o (place f s Heard stream front ahead owed) h))
          (asked_suits t f.reading stream front ahead a h.read on);
    }

-- What random bytes were drawn for.

drawn_handled : (accounts : Book) (f : Fed) (s : Talk) (stream front ahead owed : List ℕ) (s' : State) (x : Option Purpose) (dice : List ℕ)
    → IsServed (site s accounts) (place f (record s { purpose = x }) (Drawn dice) stream front ahead owed)
    → s'.talk ≡ drawn_if accounts (record s { purpose = x; phase = Drawn dice }) dice x → s'.fed ≡ f
    → Comes (site s accounts) (place f (record s { purpose = x }) (Drawn dice) stream front ahead owed) s'
drawn_handled accounts f s stream front ahead owed s' None dice h talk_is fed_is = absurd h.loaded
drawn_handled accounts f s stream front ahead owed s' (Some (Challenge m first)) dice h talk_is fed_is =
    let o : Site = site s accounts in
    let p : Place = place f (record s { purpose = Some (Challenge m first) }) (Drawn dice) stream front ahead owed in
    let t : Talk = record s { purpose = Some (Challenge m first); phase = Drawn dice } in
    let to : Place = record p { flow = record { fed = f; talk = drawn_if accounts t dice (Some (Challenge m first)) } } in
    let fed : s'.fed ≡ f = fed_is in
    let talk : s'.talk ≡ drawn_if accounts t dice (Some (Challenge m first)) = talk_is in
    record {
      to = to;
      moves = [];
      flow_is = λ j. record { fed = sym fed j; talk = sym talk j };
      ahead_is = refl;
      owed_is = refl;
      through = refl;
      silent = record { marks_none = refl; turns_none = refl; moments_none = refl; draws_none = refl; takes = tt };
      counted = omega arith;
      served = served o to
          (with_purpose o f (record s { purpose = Some (Challenge m first) }) ahead None tt (stands o p h))
          (record { told = tt; loaded = tt; read = h.read; all = tt });
    }
drawn_handled accounts f s stream front ahead owed s' (Some (Bind id resource)) dice h talk_is fed_is =
    let o : Site = site s accounts in
    let p : Place = place f (record s { purpose = Some (Bind id resource) }) (Drawn dice) stream front ahead owed in
    let t : Talk = record s { purpose = Some (Bind id resource); phase = Drawn dice } in
    let to : Place = record p { flow = record { fed = f; talk = drawn_if accounts t dice (Some (Bind id resource)) } } in
    let fed : s'.fed ≡ f = fed_is in
    let talk : s'.talk ≡ drawn_if accounts t dice (Some (Bind id resource)) = talk_is in
    record {
      to = to;
      moves = [];
      flow_is = λ j. record { fed = sym fed j; talk = sym talk j };
      ahead_is = refl;
      owed_is = refl;
      through = refl;
      silent = record { marks_none = refl; turns_none = refl; moments_none = refl; draws_none = refl; takes = tt };
      counted = omega arith;
      served = served o to
          (with_event o f (record s { purpose = None }) ahead (drawn_if accounts t dice (Some (Bind id resource))).event (h.purpose_fits, refl)
          (with_purpose o f (record s { purpose = Some (Bind id resource) }) ahead None tt (stands o p h)))
          (record { told = tt; loaded = tt; read = h.read; all = tt });
    }
drawn_handled accounts f s stream front ahead owed s' (Some (Enable resume)) dice h talk_is fed_is =
    let o : Site = site s accounts in
    let p : Place = place f (record s { purpose = Some (Enable resume) }) (Drawn dice) stream front ahead owed in
    let t : Talk = record s { purpose = Some (Enable resume); phase = Drawn dice } in
    let to : Place = record p { flow = record { fed = f; talk = drawn_if accounts t dice (Some (Enable resume)) } } in
    let fed : s'.fed ≡ f = fed_is in
    let talk : s'.talk ≡ drawn_if accounts t dice (Some (Enable resume)) = talk_is in
    record {
      to = to;
      moves = [];
      flow_is = λ j. record { fed = sym fed j; talk = sym talk j };
      ahead_is = refl;
      owed_is = refl;
      through = refl;
      silent = record { marks_none = refl; turns_none = refl; moments_none = refl; draws_none = refl; takes = tt };
      counted = omega arith;
      served = served o to
          (with_event o f (record s { purpose = None }) ahead (drawn_if accounts t dice (Some (Enable resume))).event (tt, refl)
          (with_purpose o f (record s { purpose = Some (Enable resume) }) ahead None tt (stands o p h)))
          (record { told = tt; loaded = tt; read = h.read; all = tt });
    }

-- Elsewhere nothing is handled.

stays_put : (o : Site) (p : Place) (s' : State) → IsServed o p → handling p.flow.talk.phase ≡ 0 → s' ≡ p.flow → Comes o p s'
stays_put o p s' h none is = record {
  to = p;
  moves = [];
  flow_is = sym is;
  ahead_is = refl;
  owed_is = refl;
  through = refl;
  silent = record { marks_none = refl; turns_none = refl; moments_none = refl; draws_none = refl; takes = tt };
  counted = omega (arith, none);
  served = h;
}

abbrev pub IsHandled : State → Site → Place → Type 0
IsHandled s' o p = IsServed o p → Prepares o.accounts p.flow p.flow.talk.phase s' → Comes o p s'

pub handles_now : (accounts : Book) (f : Fed) (s : Talk) (p : Phase) (stream front ahead owed : List ℕ) (s' : State)
    → IsHandled s' (site s accounts) (place f s p stream front ahead owed)
handles_now accounts f s Heard stream front ahead owed s' h (takes, fed_is) =
    item_handled accounts f s stream front ahead owed s' (waiting f.reading) refl h takes fed_is
handles_now accounts f s (Drawn dice) stream front ahead owed s' h (talk_is, fed_is) =
    drawn_handled accounts f s stream front ahead owed s' s.purpose dice h talk_is fed_is
handles_now accounts f s Resting stream front ahead owed s' h is = stays_put (site s accounts) (place f s Resting stream front ahead owed) s' h refl is
handles_now accounts f s Saying stream front ahead owed s' h is = stays_put (site s accounts) (place f s Saying stream front ahead owed) s' h refl is
handles_now accounts f s (Refusing fail) stream front ahead owed s' h is =
    stays_put (site s accounts) (place f s (Refusing fail) stream front ahead owed) s' h refl is
handles_now accounts f s Drawing stream front ahead owed s' h is = stays_put (site s accounts) (place f s Drawing stream front ahead owed) s' h refl is
handles_now accounts f s Entering stream front ahead owed s' h is = stays_put (site s accounts) (place f s Entering stream front ahead owed) s' h refl is
handles_now accounts f s (Entered pulls) stream front ahead owed s' h is =
    stays_put (site s accounts) (place f s (Entered pulls) stream front ahead owed) s' h refl is
handles_now accounts f s LoggingIn stream front ahead owed s' h is = stays_put (site s accounts) (place f s LoggingIn stream front ahead owed) s' h refl is
handles_now accounts f s LoggedIn stream front ahead owed s' h is = stays_put (site s accounts) (place f s LoggedIn stream front ahead owed) s' h refl is
handles_now accounts f s PullingOnce stream front ahead owed s' h is =
    stays_put (site s accounts) (place f s PullingOnce stream front ahead owed) s' h refl is
handles_now accounts f s Pulling stream front ahead owed s' h is = stays_put (site s accounts) (place f s Pulling stream front ahead owed) s' h refl is
handles_now accounts f s Sweeping stream front ahead owed s' h is = stays_put (site s accounts) (place f s Sweeping stream front ahead owed) s' h refl is
handles_now accounts f s (Parting x) stream front ahead owed s' h is =
    stays_put (site s accounts) (place f s (Parting x) stream front ahead owed) s' h refl is
handles_now accounts f s (Left x) stream front ahead owed s' h is = stays_put (site s accounts) (place f s (Left x) stream front ahead owed) s' h refl is
