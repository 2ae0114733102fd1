-- The texts that a client sends in a SCRAM exchange: RFC 5802, 7, by its production names.
-- Left out of the RFC's productions: `p=` openings (channel binding), `reserved-mext`, and in further attributes the
-- letters that RFC 5802, 5.1 gives a meaning. `authzid` has the form of an address, and nonces have a limit.
use Rattle.std.specs.Prelude.{ℕ, List, [], ◌∷◌, codes}
use Rattle.scram_core.specs.declared.stage.Message.{Message}
use Rattle.scram_core.specs.declared.stage.Message.TheVariants.{First, Last}
use Rattle.scram_core.specs.Expressions.{Class, Expression, empty, byte, up_to, concat, union, star}

-- RFC 5234

abbrev pub a : ℕ → Expression
a b = byte ((b, b) ∷ [])

abbrev pub between : ℕ → ℕ → Expression
between low high = byte ((low, high) ∷ [])

-- these bytes, and then p
abbrev pub word : List ℕ → Expression → Expression
word [] p = p
word (b ∷ bs) p = concat (a b) (word bs p)

-- 1*p
abbrev pub some : Expression → Expression
some p = concat p (star p)

-- [p]
abbrev pub optional : Expression → Expression
optional p = union p empty

abbrev pub comma : Expression
comma = a 0x2C

-- Characters (RFC 3629, 4)

abbrev pub utf8_tail : Expression
utf8_tail = between 0x80 0xBF

-- UTF8-2 = %xC2-DF UTF8-tail
abbrev pub utf8_2 : Expression
utf8_2 = concat (between 0xC2 0xDF) utf8_tail

-- UTF8-3 = %xE0 %xA0-BF UTF8-tail / %xE1-EC 2(UTF8-tail) / %xED %x80-9F UTF8-tail / %xEE-EF 2(UTF8-tail)
abbrev pub utf8_3 : Expression
utf8_3 =
    union (concat (a 0xE0) (concat (between 0xA0 0xBF) utf8_tail))
    (union (concat (between 0xE1 0xEC) (concat utf8_tail utf8_tail))
    (union (concat (a 0xED) (concat (between 0x80 0x9F) utf8_tail))
    (concat (between 0xEE 0xEF) (concat utf8_tail utf8_tail))))

-- UTF8-4 = %xF0 %x90-BF 2(UTF8-tail) / %xF1-F3 3(UTF8-tail) / %xF4 %x80-8F 2(UTF8-tail)
abbrev pub utf8_4 : Expression
utf8_4 =
    union (concat (a 0xF0) (concat (between 0x90 0xBF) (concat utf8_tail utf8_tail)))
    (union (concat (between 0xF1 0xF3) (concat utf8_tail (concat utf8_tail utf8_tail)))
    (concat (a 0xF4) (concat (between 0x80 0x8F) (concat utf8_tail utf8_tail))))

abbrev pub wide : Expression
wide = union utf8_2 (union utf8_3 utf8_4)

-- value-safe-char = %x01-2B / %x2D-3C / %x3E-7F / UTF8-2 / UTF8-3 / UTF8-4: any but NUL, "=" and ","
abbrev pub value_safe_char : Expression
value_safe_char = union (byte ((0x01, 0x2B) ∷ (0x2D, 0x3C) ∷ (0x3E, 0x7F) ∷ [])) wide

-- value-char = value-safe-char / "="
abbrev pub value_char : Expression
value_char = union value_safe_char (a 0x3D)

-- value = 1*value-char
abbrev pub value : Expression
value = some value_char

-- printable = %x21-2B / %x2D-7E: any printable but ","
abbrev pub printable : Class
printable = (0x21, 0x2B) ∷ (0x2D, 0x7E) ∷ []

-- base64-char = ALPHA / DIGIT / "/" / "+"
abbrev pub base64_char : Expression
base64_char = byte ((0x41, 0x5A) ∷ (0x61, 0x7A) ∷ (0x30, 0x39) ∷ (0x2F, 0x2F) ∷ (0x2B, 0x2B) ∷ [])

-- RFC 4648, 3.5: the bits after the last whole byte are zero. One of those whose value is a multiple of 4
abbrev pub third_char : Expression
third_char =
    byte ((0x41, 0x41) ∷ (0x45, 0x45) ∷ (0x49, 0x49) ∷ (0x4D, 0x4D) ∷ (0x51, 0x51) ∷ (0x55, 0x55) ∷ (0x59, 0x59) ∷ (0x63, 0x63)
    ∷ (0x67, 0x67) ∷ (0x6B, 0x6B) ∷ (0x6F, 0x6F) ∷ (0x73, 0x73) ∷ (0x77, 0x77) ∷ (0x30, 0x30) ∷ (0x34, 0x34) ∷ (0x38, 0x38) ∷ [])

-- and one of those whose value is a multiple of 16
abbrev pub second_char : Expression
second_char = byte ((0x41, 0x41) ∷ (0x51, 0x51) ∷ (0x67, 0x67) ∷ (0x77, 0x77) ∷ [])

-- base64-4 = 4base64-char
abbrev pub base64_4 : Expression
base64_4 = concat base64_char (concat base64_char (concat base64_char base64_char))

-- base64-3 = 3base64-char "="
abbrev pub base64_3 : Expression
base64_3 = concat base64_char (concat base64_char (concat third_char (a 0x3D)))

-- base64-2 = 2base64-char "=="
abbrev pub base64_2 : Expression
base64_2 = concat base64_char (concat second_char (concat (a 0x3D) (a 0x3D)))

-- base64 = *base64-4 [base64-3 / base64-2]
abbrev pub base64 : Expression
base64 = concat (star base64_4) (optional (union base64_3 base64_2))

-- "=2C" / "=3D": in a name a comma, and an equals sign
abbrev pub escape : Expression
escape = union (word (codes "=2C") empty) (word (codes "=3D") empty)

-- a character of a name
abbrev pub name_char : Expression
name_char = union value_safe_char escape

-- saslname = 1*(value-safe-char / "=2C" / "=3D")
abbrev pub saslname : Expression
saslname = some name_char

-- a character of a name other than "@"
abbrev pub local_char : Expression
local_char = union (union (byte ((0x01, 0x2B) ∷ (0x2D, 0x3C) ∷ (0x3E, 0x3F) ∷ (0x41, 0x7F) ∷ [])) wide) escape

-- a saslname with an "@" in it: the first from its second character on, and something after it
abbrev pub address : Expression
address = concat name_char (concat (star local_char) (concat (a 0x40) saslname))

-- authzid = "a=" saslname
abbrev pub authzid : Expression
authzid = word (codes "a=") address

-- gs2-cbind-flag = "n" / "y"
abbrev pub gs2_cbind_flag : Expression
gs2_cbind_flag = byte ((0x6E, 0x6E) ∷ (0x79, 0x79) ∷ [])

-- gs2-header = gs2-cbind-flag "," [ authzid ] ","
abbrev pub gs2_header : Expression
gs2_header = concat gs2_cbind_flag (concat comma (concat (optional authzid) comma))

-- username = "n=" saslname
abbrev pub username : Expression
username = word (codes "n=") saslname

-- 1*printable, of so many bytes and one more at most
abbrev pub printable_text : ℕ → Expression
printable_text further = concat (byte printable) (up_to further printable)

-- nonce = "r=" 1*printable
abbrev pub nonce : ℕ → Expression
nonce further = word (codes "r=") (printable_text further)

-- ALPHA, but for a c e i m n p r s v
abbrev pub attr_letter : Expression
attr_letter =
    byte ((0x41, 0x5A) ∷ (0x62, 0x62) ∷ (0x64, 0x64) ∷ (0x66, 0x68) ∷ (0x6A, 0x6C) ∷ (0x6F, 0x6F) ∷ (0x71, 0x71) ∷ (0x74, 0x75)
    ∷ (0x77, 0x7A) ∷ [])

-- attr-val = ALPHA "=" value
abbrev pub attr_val : Expression
attr_val = concat attr_letter (concat (a 0x3D) value)

-- ["," extensions], where extensions = attr-val *("," attr-val)
abbrev pub extensions : Expression
extensions = star (concat comma attr_val)

-- client-first-message-bare = username "," nonce ["," extensions]
abbrev pub client_first_message_bare : Expression
client_first_message_bare = concat username (concat comma (concat (nonce 255) extensions))

-- client-first-message = gs2-header client-first-message-bare
abbrev pub client_first_message : Expression
client_first_message = concat gs2_header client_first_message_bare

-- channel-binding = "c=" base64
abbrev pub channel_binding : Expression
channel_binding = word (codes "c=") base64

-- proof = "p=" base64
abbrev pub proof : Expression
proof = word (codes "p=") base64

-- client-final-message-without-proof = channel-binding "," nonce ["," extensions]
abbrev pub client_final_message_without_proof : Expression
client_final_message_without_proof = concat channel_binding (concat comma (concat (nonce 511) extensions))

-- client-final-message = client-final-message-without-proof "," proof
abbrev pub client_final_message : Expression
client_final_message = concat client_final_message_without_proof (concat comma proof)

-- a client's text
abbrev pub client_message : Message → Expression
client_message First = client_first_message
client_message Last = client_final_message
