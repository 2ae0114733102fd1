-- The attributes of a text: RFC 5802, 5.1. They are separated by commas, each is a letter, `=` and a value, and no value
-- has a comma.
use Rattle.std.specs.Prelude.{ℕ, ◌+◌, List, [], ◌∷◌, ◌++◌, length, drop, ◌==◌, ◌&&◌, ◌||◌, Bool, false, if◌then◌else◌, codes}

-- what stands before the first comma: all where there is none
abbrev pub before_comma : List ℕ → List ℕ
before_comma [] = []
before_comma (b ∷ bs) = if b == 44 then [] else b ∷ before_comma bs

-- what stands after the first comma: nothing where there is none
abbrev pub after_comma : List ℕ → List ℕ
after_comma [] = []
after_comma (b ∷ bs) = if b == 44 then bs else after_comma bs

abbrev pub has_comma : List ℕ → Bool
has_comma [] = false
has_comma (b ∷ bs) = b == 44 || has_comma bs

-- what stands before the last comma: nothing where there is none
abbrev pub before_last_comma : List ℕ → List ℕ
before_last_comma [] = []
before_last_comma (b ∷ bs) = if has_comma bs then b ∷ before_last_comma bs else []

-- the first attribute's value, after its letter and `=`
abbrev pub first_value : List ℕ → List ℕ
first_value text = drop 2 (before_comma text)

-- RFC 5802, 5.1: in a name `=2C` stands for a comma and `=3D` for an equals sign; every other byte stands for itself
abbrev pub unescaped : List ℕ → List ℕ
unescaped (b ∷ c ∷ d ∷ bs) =
    if b == 61 && (c == 50 && d == 67) then 44 ∷ unescaped bs
    else if b == 61 && (c == 51 && d == 68) then 61 ∷ unescaped bs
    else b ∷ unescaped (c ∷ d ∷ bs)
unescaped bs = bs

-- how a name is sent
abbrev pub escaped : List ℕ → List ℕ
escaped [] = []
escaped (b ∷ bs) =
    if b == 44 then 61 ∷ 50 ∷ 67 ∷ escaped bs
    else if b == 61 then 61 ∷ 51 ∷ 68 ∷ escaped bs
    else b ∷ escaped bs

-- The parts of a client-first-message.

-- gs2-cbind-flag
abbrev pub flag_of : List ℕ → List ℕ
flag_of first = before_comma first

-- authzid with its `a=`, or nothing
abbrev pub authzid_of : List ℕ → List ℕ
authzid_of first = before_comma (after_comma first)

-- gs2-header
abbrev pub header_of : List ℕ → List ℕ
header_of first = flag_of first ++ codes "," ++ authzid_of first ++ codes ","

-- client-first-message-bare
abbrev pub bare_of : List ℕ → List ℕ
bare_of first = after_comma (after_comma first)

-- the name of the account
abbrev pub name_of : List ℕ → List ℕ
name_of first = unescaped (first_value (bare_of first))

-- the client's nonce
abbrev pub nonce_of_first : List ℕ → List ℕ
nonce_of_first first = first_value (after_comma (bare_of first))

-- The parts of a server-first-message.

-- the nonce of both sides
abbrev pub nonce_of_server : List ℕ → List ℕ
nonce_of_server server = first_value server

-- The parts of a client-final-message.

-- channel-binding's value
abbrev pub binding_of : List ℕ → List ℕ
binding_of last = first_value last

abbrev pub nonce_of_last : List ℕ → List ℕ
nonce_of_last last = first_value (after_comma last)

-- client-final-message-without-proof
abbrev pub without_proof : List ℕ → List ℕ
without_proof last = before_last_comma last

-- proof's value, after a comma, `p` and `=`
abbrev pub proof_of : List ℕ → List ℕ
proof_of last = drop (length (without_proof last) + 3) last
