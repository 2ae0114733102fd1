-- A user, as the rules on subscriptions see it, of what the code has of it.
use Rattle.std.proofs.Common.{◌≡◌, ℕ, List, map, ap, ◌∙◌}
use Rattle.jid_core.specs.Addresses.{Address}
use Rattle.stanza_model.specs.declared.here.Here.{Here}
use Rattle.contact_table.specs.Books.{bare_of, contacts_of}
use Rattle.subscription_pairs.specs.Users.{User}
use Rattle.house_model.specs.Lookups.{sessions_of}
use Rattle.house_model.specs.Presences.{available_of, party, presence_of}
use Rattle.house_model.specs.States.{World}
use Rattle.house_model.specs.Traffic.{KeptTraffic}

abbrev pub user_with : Address → (d : List ℕ) → World KeptTraffic → (user : List ℕ) → List Here → List (List ℕ) → User
user_with bare d world user sessions presences =
    record { bare = bare; contacts = contacts_of d world.book user; sessions = sessions; presences = presences }

pub party_is : (domain d : List ℕ) (world : World KeptTraffic) (user : List ℕ) (bare : Address) (sessions : List Here) (presences : List (List ℕ))
    → bare ≡ bare_of domain user → d ≡ domain → sessions ≡ sessions_of world user
    → presences ≡ map (presence_of world) (available_of world user)
    → user_with bare d world user sessions presences ≡ party domain world user
party_is domain d world user bare sessions presences one two three four =
    ap (λ (b : Address). user_with b d world user sessions presences) one
    ∙ (ap (λ (x : List ℕ). user_with (bare_of domain user) x world user sessions presences) two
    ∙ (ap (λ (hs : List Here). user_with (bare_of domain user) domain world user hs presences) three
    ∙ ap (λ (ps : List (List ℕ)). user_with (bare_of domain user) domain world user (sessions_of world user) ps) four))
