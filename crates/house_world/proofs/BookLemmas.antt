-- What is kept of users, where nothing of it changes, and step by step.
use Rattle.std.proofs.Common.{refl, ◌∙◌}
use Rattle.contact_table.specs.Tables.{BookRecord}
use Rattle.house_world.specs.Keeping.{Keeps}

pub book_same : {b : BookRecord} → Keeps b b
book_same = record { domain = refl; names = λ short. short }

pub book_then : {a b c : BookRecord} → Keeps a b → Keeps b c → Keeps a c
book_then one two = record { domain = two.domain ∙ one.domain; names = λ short. two.names (one.names short) }
