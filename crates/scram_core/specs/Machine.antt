-- A reader of the texts of the grammar, byte by byte: where a byte leads, if a text can go on with it.
use Rattle.std.specs.Prelude.{ℕ, zero, suc, Bool, true, false, ◌==◌, ◌&&◌, ◌||◌, nat_le, if◌then◌else◌}
use Rattle.std.specs.Bool.{then_some}
use Rattle.std.specs.declared.option.Option.{Option}
use Rattle.std.specs.declared.option.Option.TheVariants.{None, Some}
use Rattle.scram_core.specs.declared.stage.Message.{Message}
use Rattle.scram_core.specs.declared.stage.Message.TheVariants.{First, Last}
use Rattle.scram_core.specs.declared.stage.Run.{Run}
use Rattle.scram_core.specs.declared.stage.Run.TheVariants as run
use Rattle.scram_core.specs.declared.stage.Missing.{Missing}
use Rattle.scram_core.specs.declared.stage.Missing.TheVariants as missing
use Rattle.scram_core.specs.declared.stage.Quad.{Quad}
use Rattle.scram_core.specs.declared.stage.Quad.TheVariants as quad
use Rattle.scram_core.specs.declared.stage.Coded.{Coded}
use Rattle.scram_core.specs.declared.stage.Coded.TheVariants.{Binding, Proof}
use Rattle.scram_core.specs.declared.stage.Stage.{Stage}
use Rattle.scram_core.specs.declared.stage.Stage.TheVariants as stage
use Rattle.scram_core.specs.declared.step.Opens.{Opens}
use Rattle.scram_core.specs.declared.step.Opens.TheVariants.{Whole, Part, Nothing}

abbrev pub is_between : ℕ → ℕ → ℕ → Bool
is_between low high b = nat_le low b && nat_le b high

-- Characters.

unfoldable pub opens : ℕ → Opens
opens b =
    if b == 0 || (b == 44 || b == 61) then Nothing
    else if is_between 1 127 b then Whole
    else if is_between 128 193 b then Nothing
    else if is_between 194 223 b then Part missing.OneTail
    else if b == 224 then Part missing.AfterE0
    else if b == 237 then Part missing.AfterEd
    else if is_between 225 239 b then Part missing.TwoTails
    else if b == 240 then Part missing.AfterF0
    else if is_between 241 243 b then Part missing.ThreeTails
    else if b == 244 then Part missing.AfterF4
    else Nothing

abbrev pub equals_in : Run → Stage
equals_in (run.Value m) = stage.Goes (run.Value m)
equals_in r = stage.Within r missing.Escape

abbrev pub opened : Run → Opens → Option Stage
opened r Whole = Some (stage.Goes r)
opened r (Part m) = Some (stage.Within r m)
opened r Nothing = None

abbrev pub begins : Run → ℕ → Option Stage
begins r b = if b == 61 then Some (equals_in r) else opened r (opens b)

-- the byte that ends a run, and where it leads
abbrev pub end_byte : Run → ℕ
end_byte run.Local = 64
end_byte r = 44

abbrev pub end_stage : Run → Stage
end_stage run.Local = stage.Begins run.Host
end_stage run.Host = stage.NameKey
end_stage run.Name = stage.NonceKey First
end_stage (run.Value m) = stage.Letter m

abbrev pub goes : Run → ℕ → Option Stage
goes r b = if b == end_byte r then Some (end_stage r) else begins r b

abbrev pub within : Run → Missing → ℕ → Option Stage
within r missing.OneTail b = then_some (is_between 128 191 b) (stage.Goes r)
within r missing.TwoTails b = then_some (is_between 128 191 b) (stage.Within r missing.OneTail)
within r missing.ThreeTails b = then_some (is_between 128 191 b) (stage.Within r missing.TwoTails)
within r missing.AfterE0 b = then_some (is_between 160 191 b) (stage.Within r missing.OneTail)
within r missing.AfterEd b = then_some (is_between 128 159 b) (stage.Within r missing.OneTail)
within r missing.AfterF0 b = then_some (is_between 144 191 b) (stage.Within r missing.TwoTails)
within r missing.AfterF4 b = then_some (is_between 128 143 b) (stage.Within r missing.TwoTails)
within r missing.Escape b =
    if b == 50 then Some (stage.Within r missing.EscapeC) else then_some (b == 51) (stage.Within r missing.EscapeD)
within r missing.EscapeC b = then_some (b == 67) (stage.Goes r)
within r missing.EscapeD b = then_some (b == 68) (stage.Goes r)

-- Attributes.

abbrev pub authzid : ℕ → Option Stage
authzid b = if b == 97 then Some stage.AuthzidEquals else then_some (b == 44) stage.NameKey

-- how many bytes a nonce may have beyond its first
abbrev pub further_limit : Message → ℕ
further_limit First = 255
further_limit Last = 511

unfoldable pub is_printable : ℕ → Bool
is_printable b = is_between 33 43 b || is_between 45 126 b

abbrev pub nonce : Message → ℕ → ℕ → Option Stage
nonce m zero b = then_some (b == 44) (stage.Letter m)
nonce m (suc left) b = if b == 44 then Some (stage.Letter m) else then_some (is_printable b) (stage.Nonce m left)

unfoldable pub is_attr_letter : ℕ → Bool
is_attr_letter b =
    is_between 65 90 b || (b == 98 || (b == 100 || (is_between 102 104 b || (is_between 106 108 b
    || (b == 111 || (b == 113 || (is_between 116 117 b || is_between 119 122 b)))))))

abbrev pub proof_key : Message → Option Stage
proof_key First = None
proof_key Last = Some stage.ProofEquals

abbrev pub letter : Message → ℕ → Option Stage
letter m b = if b == 112 then proof_key m else then_some (is_attr_letter b) (stage.LetterEquals m)

-- Base64.

unfoldable pub is_base64 : ℕ → Bool
is_base64 b = is_between 65 90 b || (is_between 97 122 b || (is_between 48 57 b || (b == 47 || b == 43)))

-- A E I M Q U Y c g k o s w 0 4 8
unfoldable pub is_third : ℕ → Bool
is_third b =
    b == 65 || (b == 69 || (b == 73 || (b == 77 || (b == 81 || (b == 85 || (b == 89 || (b == 99 || (b == 103
    || (b == 107 || (b == 111 || (b == 115 || (b == 119 || (b == 48 || (b == 52 || b == 56))))))))))))))

-- A Q g w
unfoldable pub is_second : ℕ → Bool
is_second b = b == 65 || (b == 81 || (b == 103 || b == 119))

abbrev pub third : ℕ → Option Quad
third b = if is_third b then Some quad.ThreeEndable else then_some (is_base64 b) quad.Three

abbrev pub quad_goes : Quad → ℕ → Option Quad
quad_goes quad.Start b = then_some (is_base64 b) quad.One
quad_goes quad.One b = if is_second b then Some quad.TwoEndable else then_some (is_base64 b) quad.Two
quad_goes quad.Two b = third b
quad_goes quad.TwoEndable b = if b == 61 then Some quad.Padding else third b
quad_goes quad.Three b = then_some (is_base64 b) quad.Start
quad_goes quad.ThreeEndable b = if b == 61 then Some quad.Padded else then_some (is_base64 b) quad.Start
quad_goes quad.Padding b = then_some (b == 61) quad.Padded
quad_goes quad.Padded b = None

abbrev pub is_whole : Quad → Bool
is_whole quad.Start = true
is_whole quad.Padded = true
is_whole q = false

abbrev pub coded_ends : Coded → Quad → ℕ → Option Stage
coded_ends Binding q b = then_some (is_whole q && b == 44) (stage.NonceKey Last)
coded_ends Proof q b = None

abbrev pub coded : Coded → Quad → Option Quad → ℕ → Option Stage
coded c q (Some to) b = Some (stage.Base64 c to)
coded c q None b = coded_ends c q b

-- where the byte b leads
abbrev pub next : Stage → ℕ → Option Stage
next stage.Flag b = then_some (b == 110 || b == 121) stage.FlagEnds
next stage.FlagEnds b = then_some (b == 44) stage.Authzid
next stage.Authzid b = authzid b
next stage.AuthzidEquals b = then_some (b == 61) (stage.Begins run.Local)
next stage.NameKey b = then_some (b == 110) stage.NameEquals
next stage.NameEquals b = then_some (b == 61) (stage.Begins run.Name)
next (stage.Begins r) b = begins r b
next (stage.Goes r) b = goes r b
next (stage.Within r m) b = within r m b
next (stage.NonceKey m) b = then_some (b == 114) (stage.NonceEquals m)
next (stage.NonceEquals m) b = then_some (b == 61) (stage.NonceBegins m)
next (stage.NonceBegins m) b = then_some (is_printable b) (stage.Nonce m (further_limit m))
next (stage.Nonce m left) b = nonce m left b
next (stage.Letter m) b = letter m b
next (stage.LetterEquals m) b = then_some (b == 61) (stage.Begins (run.Value m))
next stage.BindingKey b = then_some (b == 99) stage.BindingEquals
next stage.BindingEquals b = then_some (b == 61) (stage.Base64 Binding quad.Start)
next stage.ProofEquals b = then_some (b == 61) (stage.Base64 Proof quad.Start)
next (stage.Base64 c q) b = coded c q (quad_goes q b) b

-- where a text may end
abbrev pub is_end : Stage → Bool
is_end (stage.Nonce First left) = true
is_end (stage.Goes (run.Value First)) = true
is_end (stage.Base64 Proof q) = is_whole q
is_end s = false

-- where a text begins
abbrev pub start : Message → Stage
start First = stage.Flag
start Last = stage.BindingKey
