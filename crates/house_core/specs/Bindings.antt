-- What a binding does, read off what is kept.
use Rattle.std.specs.Prelude.{ℕ, ◌+◌, List, [], ◌∷◌, ◌++◌, Option, Some, None}
use Rattle.jid_core.specs.Addresses.{Address}
use Rattle.stanza_model.specs.declared.effect.Effect as stanza
use Rattle.sm_resume.specs.declared.decision.Cause.TheVariants.{Replaced}
use Rattle.house_model.specs.declared.answer.Answer.{Answer}
use Rattle.house_model.specs.Effects.{Effect, At, Begin, Say}
use Rattle.house_model.specs.Lookups.{session_in}
use Rattle.house_model.specs.Routing.{departure}
use Rattle.house_model.specs.States.{World}
use Rattle.house_model.specs.Steps.{departs}
use Rattle.house_model.specs.Traffic.{KeptTraffic}

-- what others are told of the session that the next one replaces
abbrev pub told_by : World KeptTraffic → Option ℕ → List stanza.Effect
told_by world None = []
told_by world (Some s) = departure world s

-- that of an address, where there is one
abbrev pub told_in : World KeptTraffic → Address → List stanza.Effect
told_in world a = told_by world (session_in world a)

-- it departs
abbrev pub replaced_by : World KeptTraffic → Option ℕ → List Effect
replaced_by world None = []
replaced_by world (Some s) = departs world s (Replaced (world.made + 1))

abbrev pub replaced_in : World KeptTraffic → Address → List Effect
replaced_in world a = replaced_by world (session_in world a)

-- then the next session begins at a line, and the client is told
abbrev pub begun_in : World KeptTraffic → (w conn : ℕ) → Address → Answer → List Effect
begun_in world w c a answer = replaced_in world a ++ (Begin w c a ∷ At w (Say answer) ∷ [])
