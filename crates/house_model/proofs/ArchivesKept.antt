-- A turn keeps what is kept of messages short, and so does each history.
use Rattle.std.proofs.Common.{◌≡◌, ◌≤◌, ◌<◌, ℕ, ◌+◌, ◌-◌, ◌^◌, List, [], ◌∷◌, ◌++◌, length, length-append, arith, inl, inr, sym, subst}
use Rattle.std.proofs.Common.{append_assoc}
use Rattle.std.proofs.lemmas.List.{append-nil}
use Rattle.stanza_model.specs.declared.effect.Effect as stanza
use Rattle.stanza_model.specs.declared.stanza.Stanza.{Stanza}
use Rattle.archive_table.specs.Archives.{Archives}
use Rattle.house_model.specs.declared.event.Event.{Event}
use Rattle.house_model.specs.declared.event.Event.TheVariants as event
use Rattle.house_model.specs.Archiving.{HaveFewRows}
use Rattle.house_model.specs.Fitting.{AreShortAddresses, AreShortArchives, AreShortRooms}
use Rattle.house_model.specs.Histories.{Allowed, IsOpening, Legal, Made, Meets, Outcome, Short, StanzaFits, Turn, after, next, next_by}
use Rattle.house_model.specs.Names.{AreShortThroughout, HasShortNames, NamesFit}
use Rattle.house_model.specs.Routing.{Scene, effects_in, scene_of}
use Rattle.house_model.specs.States.{State, keep, keep_world}
use Rattle.house_model.specs.Steps.{turn, verdict}
use Rattle.house_model.proofs.CastVerdicts.{IsCast, archives_are, verdict_cast}
use Rattle.house_model.proofs.FewRows.{few_rows}
use Rattle.house_model.proofs.FiledRows.{all_in}
use Rattle.house_model.proofs.NamesKept.{short_throughout}
use Rattle.house_model.proofs.ShortArchives.{departure_short, fault_short, stanza_short}
use Rattle.house_model.proofs.ShortRooms.{sent_to, turn_short}
use Rattle.house_model.proofs.TurnLaws.{after_push}

abbrev IsShortAfter : State → List stanza.Effect → Type 0
IsShortAfter st es = AreShortArchives (all_in es st.world.archives)

-- what comes of a stanza
pub acted_archives : (o : Scene) (s : ℕ) → AreShortAddresses o.world → AreShortRooms o.world.rooms → HaveFewRows (2 ^ 64 - 2) o.world.archives
    → AreShortArchives o.world.archives → (x : Stanza) → StanzaFits x → AreShortArchives (all_in (effects_in o s x) o.world.archives)
acted_archives o s addresses rooms few short x (inl sent) = stanza_short o s addresses rooms few short x (inl sent) (sent_to x sent)
acted_archives o s addresses rooms few short x (inr fault) = fault_short o s short x fault

module _ (st : State) (addresses : AreShortAddresses (keep_world st.world)) (rooms : AreShortRooms st.world.rooms)
    (few : HaveFewRows (2 ^ 64 - 2) st.world.archives) (short : AreShortArchives st.world.archives) where
  event_short : (e : Event) (outcome : Outcome) → Meets e → AreShortArchives (next_by st e outcome).world.archives
  event_short e (Made reply words) meets =
      let is : IsCast (IsShortAfter st) st.world (verdict (keep (turn e st)) e).effects =
      verdict_cast st e (IsShortAfter st) short (λ s. departure_short (keep_world st.world) s st.world.archives short)
      (λ w c s t x same bound.
      acted_archives (scene_of (keep (turn (event.Act w x t) st))) s addresses rooms few short x (subst Meets same meets)) in
      subst AreShortArchives (sym (archives_are (IsShortAfter st) st.world (verdict (keep (turn e st)) e).effects is)) is.holds
  event_short e Short meets = short

-- one turn

pub turn_archives : (o : State) (h : List Turn) (x : Turn) → IsOpening o → Allowed (after o h) x
    → AreShortAddresses (keep_world (after o h).world) → AreShortRooms (after o h).world.rooms
    → HaveFewRows (2 ^ 64 - 2) (after o h).world.archives → AreShortArchives (after o h).world.archives
    → AreShortArchives (after o (h ++ x ∷ [])).world.archives
turn_archives o h x starts allowed addresses rooms few short =
    subst (λ (st : State). AreShortArchives st.world.archives) (sym (after_push o h x))
    (event_short (after o h) addresses rooms few short x.event x.outcome allowed.meets)

-- and each history

fewer : (m n : ℕ) (a : Archives) → m ≤ n → HaveFewRows m a → HaveFewRows n a
fewer m n a low have = record {
  users = λ user. (let few : (a.users user).made ≤ m = have.users user in omega (arith, few, low));
  rooms = λ k. (let few : (a.rooms k).made ≤ m = have.rooms k in omega (arith, few, low));
}

history_archives : (o : State) (h more : List Turn) → IsOpening o → Legal (after o h) more → AreShortThroughout (after o h) more
    → length h + length more < 2 ^ 64 → AreShortRooms (after o h).world.rooms → AreShortArchives (after o h).world.archives
    → AreShortArchives (after o (h ++ more)).world.archives
history_archives o h [] starts legal throughout count rooms short =
    subst (λ (l : List Turn). AreShortArchives (after o l).world.archives) (sym (append-nil h)) short
history_archives o h (x ∷ more) starts legal throughout count rooms short =
    let pushed : List Turn = h ++ x ∷ [] in
    let same : next (after o h) x ≡ after o pushed = sym (after_push o h x) in
    let below : length h ≤ 2 ^ 64 - 2 = omega (arith, count) in
    let few : HaveFewRows (2 ^ 64 - 2) (after o h).world.archives =
    fewer (length h) (2 ^ 64 - 2) (after o h).world.archives below (few_rows o h starts) in
    let longer : length pushed ≡ length h + 1 = length-append h (x ∷ []) in
    subst (λ (l : List Turn). AreShortArchives (after o l).world.archives) (append_assoc h (x ∷ []) more)
    (history_archives o pushed more starts
    (subst (λ (st : State). Legal st more) same legal.1)
    (subst (λ (st : State). AreShortThroughout st more) same throughout.1)
    (omega (arith, count, longer))
    (turn_short o h x starts legal.0 throughout.0 rooms)
    (turn_archives o h x starts legal.0 throughout.0 rooms few short))

pub always_archives : (o : State) (h : List Turn) → IsOpening o → Legal o h → HasShortNames o.head → NamesFit h → length h < 2 ^ 64
    → AreShortArchives (after o h).world.archives
always_archives o h starts legal names fit count =
    history_archives o [] h starts legal (short_throughout o h starts names fit) (omega (arith, count))
    (subst (λ (st : State). AreShortRooms st.world.rooms) (sym starts.4) tt)
    (subst (λ (st : State). AreShortArchives st.world.archives) (sym starts.4)
    (record { users = λ user. tt; rooms = λ n. tt; bytes = omega arith }))
