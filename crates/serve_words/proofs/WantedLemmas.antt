-- What clap reads is what the options say.
use Rattle.std.proofs.Common.{◌≡◌, ℕ, ◌++◌, List, [], ◌∷◌, Some, codes, refl, sym, ap, ◌∙◌}
use Rattle.std.specs.Prelude.{Option, None}
use Rattle.account_book.specs.Fields.{on}
use Rattle.clap.specs.Words.{Row, first_of, matches_of}
use Rattle.serve_words.specs.Grammars.{grammar}
use Rattle.serve_words.specs.Options.{Said, Set, links_by, links_of, only, said_with, sole, spelled, value_of, values_of, wanted_by, wanted_in}
use Rattle.serve_words.specs.declared.option.Name.TheVariants.{Domain, Port, Workers, Links, Connections, Quiet, Sessions}
use Rattle.serve_words.proofs.OptionLemmas.{only_many, only_none, only_some}
use Rattle.serve_words.proofs.GrammarLemmas.{connections-are, domain-is, links-are, port-is, quiet-is, sessions-are, seven, workers-are}

-- the words of what is said, each option with its text in one word
abbrev pub words_of : Said → List (List ℕ)
words_of s = seven s.domain s.port s.workers s.links s.connections s.quiet s.sessions

by-head : (a b : List ℕ) (more rest : List (List ℕ)) → a ≡ b → more ≡ rest → a ∷ more ≡ b ∷ rest
by-head a b more rest i j = ap (λ x. x ∷ more) i ∙ ap (λ l. b ∷ l) j

pub seven-words : (s : Said) (d p w l c q n : List ℕ) → d ≡ spelled Domain ++ s.domain → p ≡ spelled Port ++ s.port
    → w ≡ spelled Workers ++ s.workers → l ≡ spelled Links ++ s.links → c ≡ spelled Connections ++ s.connections → q ≡ spelled Quiet ++ s.quiet
    → n ≡ spelled Sessions ++ s.sessions → d ∷ p ∷ w ∷ l ∷ c ∷ q ∷ n ∷ [] ≡ words_of s
seven-words s d p w l c q n i j k m o r t =
    by-head _ _ _ _ i (by-head _ _ _ _ j (by-head _ _ _ _ k (by-head _ _ _ _ m (by-head _ _ _ _ o (by-head _ _ _ _ r (ap (λ x. x ∷ []) t))))))

by-seven : (d p w l c q n d' p' w' l' c' q' n' : Option (List ℕ)) → d ≡ d' → p ≡ p' → w ≡ w' → l ≡ l' → c ≡ c' → q ≡ q' → n ≡ n'
    → said_with d p w l c q n ≡ said_with d' p' w' l' c' q' n'
by-seven d p w l c q n d' p' w' l' c' q' n' i j k m o r t =
    ap (λ x. said_with x p w l c q n) i ∙ ap (λ x. said_with d' x w l c q n) j ∙ ap (λ x. said_with d' p' x l c q n) k
    ∙ ap (λ x. said_with d' p' w' x c q n) m ∙ ap (λ x. said_with d' p' w' l' x q n) o ∙ ap (λ x. said_with d' p' w' l' c' x n) r
    ∙ ap (λ x. said_with d' p' w' l' c' q' x) t

-- clap reads of these words what is said
pub as-read : (s : Said) (rows : List Row) (words : List (List ℕ)) → words ≡ words_of s → rows ≡ matches_of grammar words
    → said_with (first_of (codes "domain") rows) (first_of (codes "port") rows) (first_of (codes "workers") rows) (first_of (codes "links") rows)
    (first_of (codes "connections") rows) (first_of (codes "quiet") rows) (first_of (codes "sessions") rows) ≡ Some s
as-read s rows words are read =
    let is : rows ≡ matches_of grammar (words_of s) = read ∙ ap (matches_of grammar) are in
    by-seven _ _ _ _ _ _ _ (Some s.domain) (Some s.port) (Some s.workers) (Some s.links) (Some s.connections) (Some s.quiet) (Some s.sessions)
    (ap (first_of (codes "domain")) is ∙ domain-is s.domain s.port s.workers s.links s.connections s.quiet s.sessions)
    (ap (first_of (codes "port")) is ∙ port-is s.domain s.port s.workers s.links s.connections s.quiet s.sessions)
    (ap (first_of (codes "workers")) is ∙ workers-are s.domain s.port s.workers s.links s.connections s.quiet s.sessions)
    (ap (first_of (codes "links")) is ∙ links-are s.domain s.port s.workers s.links s.connections s.quiet s.sessions)
    (ap (first_of (codes "connections")) is ∙ connections-are s.domain s.port s.workers s.links s.connections s.quiet s.sessions)
    (ap (first_of (codes "quiet")) is ∙ quiet-is s.domain s.port s.workers s.links s.connections s.quiet s.sessions)
    (ap (first_of (codes "sessions")) is ∙ sessions-are s.domain s.port s.workers s.links s.connections s.quiet s.sessions)

-- Where an option is missing or stands twice.

no-workers : (d p l c q n : Option (List ℕ)) → said_with d p None l c q n ≡ None
no-workers None p l c q n = refl
no-workers (Some d) None l c q n = refl
no-workers (Some d) (Some p) l c q n = refl

no-links : (d p w c q n : Option (List ℕ)) → said_with d p w None c q n ≡ None
no-links None p w c q n = refl
no-links (Some d) None w c q n = refl
no-links (Some d) (Some p) None c q n = refl
no-links (Some d) (Some p) (Some w) c q n = refl

no-sessions : (d p w l c q : Option (List ℕ)) → said_with d p w l c q None ≡ None
no-sessions None p w l c q = refl
no-sessions (Some d) None w l c q = refl
no-sessions (Some d) (Some p) None l c q = refl
no-sessions (Some d) (Some p) (Some w) None c q = refl
no-sessions (Some d) (Some p) (Some w) (Some l) None q = refl
no-sessions (Some d) (Some p) (Some w) (Some l) (Some c) None = refl
no-sessions (Some d) (Some p) (Some w) (Some l) (Some c) (Some q) = refl

pub without_workers : (given : List Set) → None ≡ value_of given Workers → wanted_in given ≡ None
without_workers given e =
    ap (λ s. on s wanted_by)
    (ap (λ w. said_with (value_of given Domain) (value_of given Port) w (links_of given) (value_of given Connections) (value_of given Quiet)
    (value_of given Sessions)) (sym e)
    ∙ no-workers (value_of given Domain) (value_of given Port) (links_of given) (value_of given Connections) (value_of given Quiet) (value_of given Sessions))

pub without_sessions : (given : List Set) → None ≡ value_of given Sessions → wanted_in given ≡ None
without_sessions given e =
    ap (λ s. on s wanted_by)
    (ap (λ n. said_with (value_of given Domain) (value_of given Port) (value_of given Workers) (links_of given) (value_of given Connections)
    (value_of given Quiet) n) (sym e)
    ∙ no-sessions (value_of given Domain) (value_of given Port) (value_of given Workers) (links_of given) (value_of given Connections)
    (value_of given Quiet))

links-with : (given : List Set) (w n : List ℕ) → Some w ≡ value_of given Workers → Some n ≡ value_of given Sessions
    → links_of given ≡ only (links_by w n) (values_of Links given)
links-with given w n e f =
    ap (λ o. on o (λ workers. on (value_of given Sessions) (λ sessions. only (links_by workers sessions) (values_of Links given)))) (sym e)
    ∙ ap (λ o. on o (λ sessions. only (links_by w sessions) (values_of Links given))) (sym f)

pub without_links : (given : List Set) (w n : List ℕ) → Some w ≡ value_of given Workers → Some n ≡ value_of given Sessions
    → None ≡ sole (values_of Links given) → wanted_in given ≡ None
without_links given w n e f many =
    let none : links_of given ≡ None = links-with given w n e f ∙ sym (only_many (links_by w n) (values_of Links given) many) in
    ap (λ s. on s wanted_by)
    (ap (λ l. said_with (value_of given Domain) (value_of given Port) (value_of given Workers) l (value_of given Connections) (value_of given Quiet)
    (value_of given Sessions)) none
    ∙ no-links (value_of given Domain) (value_of given Port) (value_of given Workers) (value_of given Connections) (value_of given Quiet)
    (value_of given Sessions))

pub given_links : (given : List Set) (w n v : List ℕ) → Some w ≡ value_of given Workers → Some n ≡ value_of given Sessions
    → Some (Some v) ≡ sole (values_of Links given) → links_of given ≡ Some v
given_links given w n v e f one = links-with given w n e f ∙ sym (only_some (links_by w n) v (values_of Links given) one)

pub usual_text : (given : List Set) (w n v : List ℕ) → Some w ≡ value_of given Workers → Some n ≡ value_of given Sessions
    → Some None ≡ sole (values_of Links given) → v ≡ links_by w n → links_of given ≡ Some v
usual_text given w n v e f none is = links-with given w n e f ∙ sym (only_none (links_by w n) (values_of Links given) none) ∙ ap Some (sym is)
