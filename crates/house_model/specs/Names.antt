-- The names that come in with a history, and the addresses that come of them.
use Rattle.std.specs.Prelude.{ℕ, ◌≤◌, List, [], ◌∷◌, length, ⊤}
use Rattle.std.specs.List.{AllByRecursion}
use Rattle.house_model.specs.declared.event.Event.{Event}
use Rattle.house_model.specs.declared.event.Event.TheVariants.{Bind}
use Rattle.house_model.specs.States.{Head, State, keep_world}
use Rattle.house_model.specs.Fitting.{AreShortAddresses}
use Rattle.house_model.specs.Histories.{Turn, next}
use Rattle.house_model.specs.Steps.{resource_or}

-- RFC 7622, 3.2 to 3.4: a part of an address has at most 1023 bytes: the domain, each user's name, and the resource of each binding
pub record HasShortNames (h : Head) : Type 0 where
  pub domain : length h.domain.domain ≤ 1023
  pub users : AllByRecursion (λ (u : List ℕ). length u ≤ 1023) h.users

abbrev pub NameFits : Event → Type 0
NameFits (Bind w id resource t dice) = length (resource_or dice resource) ≤ 1023
NameFits e = ⊤

abbrev pub NamesFit : List Turn → Type 0
NamesFit [] = ⊤
NamesFit (x ∷ more) = NameFits x.event × NamesFit more

-- in each state of a history, the address of each session is short
abbrev pub AreShortThroughout : State → List Turn → Type 0
AreShortThroughout st [] = AreShortAddresses (keep_world st.world)
AreShortThroughout st (x ∷ more) = AreShortAddresses (keep_world st.world) × AreShortThroughout (next st x) more
