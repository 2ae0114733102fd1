-- What may still come at each stage.
use Rattle.std.proofs.Common.{ℕ, codes}
use Rattle.std.specs.declared.option.Option.{Option}
use Rattle.std.specs.declared.option.Option.TheVariants.{None, Some}
use Rattle.scram_core.specs.declared.stage.Message.{Message}
use Rattle.scram_core.specs.declared.stage.Message.TheVariants.{First, Last}
use Rattle.scram_core.specs.declared.stage.Run.{Run}
use Rattle.scram_core.specs.declared.stage.Run.TheVariants as run
use Rattle.scram_core.specs.declared.stage.Missing.{Missing}
use Rattle.scram_core.specs.declared.stage.Missing.TheVariants as missing
use Rattle.scram_core.specs.declared.stage.Quad.{Quad}
use Rattle.scram_core.specs.declared.stage.Quad.TheVariants as quad
use Rattle.scram_core.specs.declared.stage.Coded.{Coded}
use Rattle.scram_core.specs.declared.stage.Coded.TheVariants.{Binding, Proof}
use Rattle.scram_core.specs.declared.stage.Stage.{Stage}
use Rattle.scram_core.specs.declared.stage.Stage.TheVariants as stage
use Rattle.scram_core.specs.Expressions.{Expression, void, empty, byte, up_to, concat, union, star}
use Rattle.scram_core.specs.Grammar.{a, between, word, optional, comma, utf8_tail, value_char, printable, base64_char}
use Rattle.scram_core.specs.Grammar.{second_char, third_char, base64, name_char, local_char, authzid, attr_val}
use Rattle.scram_core.specs.Grammar.{extensions, proof, client_first_message, client_final_message}
use Rattle.scram_core.specs.Machine.{further_limit}

-- After the nonce.

abbrev pub after_nonce : Message → Expression
after_nonce First = extensions
after_nonce Last = concat extensions (concat comma proof)

abbrev pub at_letter : Message → Expression
at_letter First = concat attr_val extensions
at_letter Last = union (concat attr_val (concat extensions (concat comma proof))) proof

-- Runs of characters.

abbrev pub run_char : Run → Expression
run_char run.Local = local_char
run_char run.Host = name_char
run_char run.Name = name_char
run_char (run.Value m) = value_char

-- the character that a run begins with
abbrev pub first_char : Run → Expression
first_char run.Local = name_char
first_char r = run_char r

abbrev pub nonce_left : Message → ℕ → Expression
nonce_left m left = concat (up_to left printable) (after_nonce m)

abbrev pub nonce_begins : Message → Expression
nonce_begins m = concat (byte printable) (nonce_left m (further_limit m))

abbrev pub nonce_key : Message → Expression
nonce_key m = word (codes "r=") (nonce_begins m)

abbrev pub name_goes : Expression
name_goes = concat (star name_char) (concat comma (nonce_key First))

abbrev pub name_key : Expression
name_key = word (codes "n=") (concat name_char name_goes)

abbrev pub host_goes : Expression
host_goes = concat (star name_char) (concat comma name_key)

abbrev pub local_goes : Expression
local_goes = concat (star local_char) (concat (a 0x40) (concat name_char host_goes))

abbrev pub value_goes : Message → Expression
value_goes m = concat (star value_char) (after_nonce m)

abbrev pub run_goes : Run → Expression
run_goes run.Local = local_goes
run_goes run.Host = host_goes
run_goes run.Name = name_goes
run_goes (run.Value m) = value_goes m

-- the rest of a character, and then p
abbrev pub missing_rest : Missing → Expression → Expression
missing_rest missing.OneTail p = concat utf8_tail p
missing_rest missing.TwoTails p = concat utf8_tail (concat utf8_tail p)
missing_rest missing.ThreeTails p = concat utf8_tail (concat utf8_tail (concat utf8_tail p))
missing_rest missing.AfterE0 p = concat (between 0xA0 0xBF) (concat utf8_tail p)
missing_rest missing.AfterEd p = concat (between 0x80 0x9F) (concat utf8_tail p)
missing_rest missing.AfterF0 p = concat (between 0x90 0xBF) (concat utf8_tail (concat utf8_tail p))
missing_rest missing.AfterF4 p = concat (between 0x80 0x8F) (concat utf8_tail (concat utf8_tail p))
missing_rest missing.Escape p = concat (union (word (codes "2C") empty) (word (codes "3D") empty)) p
missing_rest missing.EscapeC p = concat (a 0x43) p
missing_rest missing.EscapeD p = concat (a 0x44) p

-- Base64.

abbrev pub pad : Expression
pad = a 0x3D

abbrev pub quad_rest : Quad → Expression
quad_rest quad.Start = base64
quad_rest quad.One =
    union (concat base64_char (concat base64_char (concat base64_char base64)))
    (union (concat base64_char (concat third_char pad)) (concat second_char (concat pad pad)))
quad_rest quad.Two = union (concat base64_char (concat base64_char base64)) (concat third_char pad)
quad_rest quad.TwoEndable = union (concat base64_char (concat base64_char base64)) (union (concat third_char pad) (concat pad pad))
quad_rest quad.Three = concat base64_char base64
quad_rest quad.ThreeEndable = union (concat base64_char base64) pad
quad_rest quad.Padding = pad
quad_rest quad.Padded = empty

abbrev pub coded_rest : Coded → Quad → Expression
coded_rest Binding q = concat (quad_rest q) (concat comma (nonce_key Last))
coded_rest Proof q = quad_rest q

abbrev pub authzid_or_comma : Expression
authzid_or_comma = concat (optional authzid) (concat comma name_key)

-- the texts that may still come
abbrev pub rest_at : Stage → Expression
rest_at stage.Flag = client_first_message
rest_at stage.FlagEnds = concat comma authzid_or_comma
rest_at stage.Authzid = authzid_or_comma
rest_at stage.AuthzidEquals = concat (a 0x3D) (concat name_char local_goes)
rest_at stage.NameKey = name_key
rest_at stage.NameEquals = concat (a 0x3D) (concat name_char name_goes)
rest_at (stage.Begins r) = concat (first_char r) (run_goes r)
rest_at (stage.Goes r) = run_goes r
rest_at (stage.Within r m) = missing_rest m (run_goes r)
rest_at (stage.NonceKey m) = nonce_key m
rest_at (stage.NonceEquals m) = concat (a 0x3D) (nonce_begins m)
rest_at (stage.NonceBegins m) = nonce_begins m
rest_at (stage.Nonce m left) = nonce_left m left
rest_at (stage.Letter m) = at_letter m
rest_at (stage.LetterEquals m) = concat (a 0x3D) (concat value_char (value_goes m))
rest_at stage.BindingKey = client_final_message
rest_at stage.BindingEquals = concat (a 0x3D) (coded_rest Binding quad.Start)
rest_at stage.ProofEquals = concat (a 0x3D) base64
rest_at (stage.Base64 c q) = coded_rest c q

-- the same where no text goes on
abbrev pub left : Option Stage → Expression
left None = void
left (Some s) = rest_at s
