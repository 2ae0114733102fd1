-- The words of `serve`: options anywhere, each at most once.
use Rattle.std.specs.Prelude.{◌≡◌, ℕ, ◌*◌, ◌==◌, nat_le, nat_lt, Bool, true, false, not, ◌&&◌, List, [], ◌∷◌, length}
use Rattle.std.specs.Prelude.{Option, Some, None, ⊤, bytes_eq, codes, is_some, if◌then◌else◌}
use Rattle.std.specs.Borrow.{Bor}
use Rattle.std.specs.Fmt.{decimal}
use Rattle.std.specs.Char.{is_ascii_digit}
use Rattle.std.specs.List.{list_all}
use Rattle.std.specs.Option.{option_map}
use Rattle.std.specs.Result.{result_ok}
use Rattle.std.specs.Str.Parse.{digits_value}
use Rattle.jid_core.specs.Addresses.{Address, address_of}
use Rattle.account_book.specs.Fields.{cut, on}
use Rattle.jid_core.specs.Cuts.{after}
use Rattle.script_play.specs.declared.status.Status.{Status}
use Rattle.script_play.specs.declared.status.Status.TheVariants as status
use Rattle.serve_run.specs.declared.serving.Serving.{Serving}
use Rattle.serve_words.specs.Limits.{most_links, most_places, usual_links}
use Rattle.serve_words.specs.declared.option.Name.{Name}
use Rattle.serve_words.specs.declared.option.Name.TheVariants.{Domain, Port, Workers, Links, Connections, Quiet, Sessions}
use Rattle.serve_words.specs.declared.option.Given.{Given}
use Rattle.serve_words.specs.declared.option.Met.{Met}
use Rattle.serve_words.specs.declared.option.Met.TheVariants.{Whole, Waits, Neither}

-- the option that a text names
abbrev pub named : List ℕ → Option Name
named text =
    if bytes_eq text (codes "--domain") then Some Domain
    else if bytes_eq text (codes "--port") then Some Port
    else if bytes_eq text (codes "--workers") then Some Workers
    else if bytes_eq text (codes "--links") then Some Links
    else if bytes_eq text (codes "--connections") then Some Connections
    else if bytes_eq text (codes "--sessions") then Some Sessions
    else None

-- a value that stands as a word of its own: it is not empty, and begins with no `-`
abbrev pub is_value : List ℕ → Bool
is_value [] = false
is_value (b ∷ more) = not (b == 45)

-- an option with its value
pub record Set : Type 0 where
  pub name : Name
  pub value : List ℕ

-- `--x=V` in one word, where V isn't empty
abbrev pub joined : List ℕ → Option Set
joined word = cut 61 word (λ text value. if bytes_eq value [] then None else on (named text) (λ name. Some (record { name = name; value = value })))

abbrev pub before_all : Set → Option (List Set) → Option (List Set)
before_all one rest = on rest (λ more. Some (one ∷ more))

-- `--quiet`, which has no value of its own
abbrev pub is_quiet : List ℕ → Bool
is_quiet word = bytes_eq word (codes "--quiet")

abbrev pub quietly : Set
quietly = record { name = Quiet; value = codes "yes" }

-- the options of words in their order: `--quiet`, `--x=V`, or `--x` and then V as a word of its own, for which a name may wait
abbrev pub options : Option Name → List (List ℕ) → Option (List Set)
options None [] = Some []
options (Some name) [] = None
options None (word ∷ more) = if is_quiet word then before_all quietly (options None more)
    else if is_some (after 61 word) then on (joined word) (λ one. before_all one (options None more))
    else on (named word) (λ name. options (Some name) more)
options (Some name) (word ∷ more) = if is_value word then before_all (record { name = name; value = word }) (options None more) else None

abbrev pub is_same : Name → Name → Bool
is_same Domain Domain = true
is_same Port Port = true
is_same Workers Workers = true
is_same Links Links = true
is_same Connections Connections = true
is_same Quiet Quiet = true
is_same Sessions Sessions = true
is_same _ _ = false

-- the values of an option
abbrev pub values_of : Name → List Set → List (List ℕ)
values_of name [] = []
values_of name (one ∷ more) = if is_same one.name name then one.value ∷ values_of name more else values_of name more

-- what stands where an option isn't given
abbrev pub default : Name → List ℕ
default Domain = codes "localhost"
default Port = codes "5222"
default Workers = codes "4"
default Links = codes "256"
default Connections = codes "0"
default Quiet = codes "no"
default Sessions = codes "512"

-- what stands before a value in one word with it
abbrev pub spelled : Name → List ℕ
spelled Domain = codes "--domain="
spelled Port = codes "--port="
spelled Workers = codes "--workers="
spelled Links = codes "--links="
spelled Connections = codes "--connections="
spelled Quiet = codes "--quiet="
spelled Sessions = codes "--sessions="

-- the only one, or what stands where there is none
abbrev pub only : List ℕ → List (List ℕ) → Option (List ℕ)
only default [] = Some default
only default (value ∷ []) = Some value
only default _ = None

-- the value that is given, if one is; none where several are
abbrev pub sole : List (List ℕ) → Option (Option (List ℕ))
sole [] = Some None
sole (value ∷ []) = Some (Some value)
sole _ = None

-- the value of an option
abbrev pub value_of : List Set → Name → Option (List ℕ)
value_of given name = only (default name) (values_of name given)

-- ASCII digits, leading zeros allowed
abbrev pub are_digits : List ℕ → Bool
are_digits text = nat_lt 0 (length text) && list_all is_ascii_digit text

abbrev pub is_between : ℕ → ℕ → ℕ → Bool
is_between least most n = nat_le least n && nat_le n most

-- a number from the least to the most
abbrev pub number : ℕ → ℕ → List ℕ → Option ℕ
number least most text = if are_digits text && is_between least most (digits_value 10 text) then Some (digits_value 10 text) else None

-- no local part, no resource, and written as it is prepared
abbrev pub alone : List ℕ → Address → Option Address
alone text a = if not (is_some a.local) && not (is_some a.resource) && bytes_eq a.domain text then Some a else None

-- a domain alone (RFC 7622, 3.2), of at most 1,017 bytes
abbrev pub domain : List ℕ → Option Address
domain text = if nat_le (length text) 1017 then on (result_ok (address_of text)) (alone text) else None

-- how many workers there are: each has a thread
abbrev pub workers_in : List ℕ → Option ℕ
workers_in text = number 1 64 text

-- how many sessions there may be
abbrev pub sessions_in : List ℕ → Option ℕ
sessions_in text = number 1 16384 text

-- what stands for `--links` beside so many workers and sessions
abbrev pub links_for : (workers sessions : Option ℕ) → List ℕ
links_for None sessions = default Links
links_for (Some workers) None = default Links
links_for (Some workers) (Some sessions) = decimal (usual_links sessions workers)

-- and beside these texts for them
abbrev pub links_by : (workers sessions : List ℕ) → List ℕ
links_by workers sessions = links_for (workers_in workers) (sessions_in sessions)

-- what is said of each option
pub record Said : Type 0 where
  pub domain : List ℕ
  pub port : List ℕ
  pub workers : List ℕ
  pub links : List ℕ
  pub connections : List ℕ
  pub quiet : List ℕ
  pub sessions : List ℕ

abbrev pub said_with : (domain port workers links connections quiet sessions : Option (List ℕ)) → Option Said
said_with d p w l c q n =
    on d (λ domain. on p (λ port. on w (λ workers. on l (λ links. on c (λ connections. on q (λ quiet. on n (λ sessions.
    Some (record {
      domain = domain;
      port = port;
      workers = workers;
      links = links;
      connections = connections;
      quiet = quiet;
      sessions = sessions;
    }))))))))

abbrev pub links_of : List Set → Option (List ℕ)
links_of given =
    on (value_of given Workers) (λ workers. on (value_of given Sessions) (λ sessions. only (links_by workers sessions) (values_of Links given)))

abbrev pub said_in : List Set → Option Said
said_in given =
    said_with (value_of given Domain) (value_of given Port) (value_of given Workers) (links_of given) (value_of given Connections) (value_of given Quiet)
    (value_of given Sessions)

-- all workers together serve no more connections at once than they may
abbrev pub if_few : Serving → Option Serving
if_few asked = if nat_le (asked.workers * asked.links) (most_places asked.sessions) then Some asked else None

-- what the values ask for
abbrev pub wanted_by : Said → Option Serving
wanted_by s =
    on (domain s.domain) (λ domain. on (number 1 65535 s.port) (λ port. on (workers_in s.workers) (λ workers. on (sessions_in s.sessions) (λ sessions.
    on (number 1 (most_links sessions) s.links) (λ links. on (number 0 1000000 s.connections) (λ connections.
    if_few (record {
      domain = domain;
      port = port;
      workers = workers;
      links = links;
      connections = connections;
      quiet = bytes_eq s.quiet (codes "yes");
      sessions = sessions;
    })))))))

abbrev pub wanted_in : List Set → Option Serving
wanted_in given = on (said_in given) wanted_by

-- what the words ask for
abbrev pub wanted : List (List ℕ) → Option Serving
wanted words = on (options None words) wanted_in

-- a value that may have been found
abbrev pub found_text : Option (Bor (List ℕ)) → Option (List ℕ)
found_text found = option_map (λ (v : Bor (List ℕ)). v.now) found

-- an option that was found, as it stands in the words
abbrev pub set_of : Given → Set
set_of g = record { name = g.name; value = g.value.now }

-- what was found of it
abbrev pub Finds : Option Set → Option Given → Type 0
Finds read None = read ≡ None
Finds read (Some g) = read ≡ Some (set_of g)

-- what one more word makes of a name that may wait
abbrev pub Meets : Option Name → List ℕ → Met → Type 0
Meets waits word (Whole g) = (more : List (List ℕ)) → options waits (word ∷ more) ≡ before_all (set_of g) (options None more)
Meets waits word (Waits name) = (more : List (List ℕ)) → options waits (word ∷ more) ≡ options (Some name) more
Meets waits word Neither = (more : List (List ℕ)) → options waits (word ∷ more) ≡ None

-- bad words, or no memory to read them
abbrev pub IsRefusal : {X : Type 0} → Option X → Status → Type 0
IsRefusal read status.Usage = read ≡ None
IsRefusal read status.NoMemory = ⊤
IsRefusal read status.Done = ⊥
IsRefusal read (status.Accounts n) = ⊥
IsRefusal read (status.Script n) = ⊥
IsRefusal read status.ReadFault = ⊥
IsRefusal read status.WriteFault = ⊥
IsRefusal read status.ListenFault = ⊥
