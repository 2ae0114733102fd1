-- What a submitted form makes of a room's settings is short.
use Rattle.std.proofs.Common.{◌≡◌, ℕ, ◌+◌, ◌-◌, ◌*◌, ◌≤◌, ◌==◌, min, List, [], ◌∷◌, length}
use Rattle.std.proofs.Common.{not, ◌&&◌, refl, arith, Bool, true, false, Option, Some, None}
use Rattle.std.specs.List.{list_any}
use Rattle.std.proofs.lemmas.Bool.{leb-true}
use Rattle.stanza_model.specs.declared.form.Field.{Field}
use Rattle.stanza_model.specs.declared.shared.Config.{Config}
use Rattle.muc_settings.specs.Drafts.{config_of, draft_of, first_value, fits, fits_by, is_wrong, number_from, put, put_all, put_by}
use Rattle.muc_settings.specs.Settings.{setting_named}
use Rattle.muc_settings.specs.declared.draft.Draft.{Draft}
use Rattle.muc_settings.specs.declared.setting.Setting.{Setting}
use Rattle.muc_settings.specs.declared.setting.Setting.TheVariants.{FormType, Title, Persistent, MembersOnly, Moderated}
use Rattle.muc_settings.specs.declared.setting.Setting.TheVariants.{ChangeSubject, Whois, Guarded, Secret, Most}
use Rattle.house_model.proofs.StayEnters.{neither}
use Rattle.house_model.proofs.StayLemmas.{choose}

pub record IsShortConfig (c : Config) : Type 0 where
  pub title : length c.title ≤ 256
  pub secret : length c.secret ≤ 256
  pub most : c.max ≤ 1000

number-from-le : (n : ℕ) (digits : List ℕ) → n ≤ 1000 → number_from n digits ≤ 1000
number-from-le n [] few = few
number-from-le n (digit ∷ more) few = number-from-le (min (n * 10 + (digit - 48)) 1000) more (omega arith)

put_short : (s : Setting) (value : List ℕ) (d : Draft) → fits s value ≡ true → IsShortConfig d.config → IsShortConfig (put s value d).config
put_short FormType value d right short = short
put_short Title value d right short = record { title = leb-true (length value) 256 right; secret = short.secret; most = short.most }
put_short Persistent value d right short = record { title = short.title; secret = short.secret; most = short.most }
put_short MembersOnly value d right short = record { title = short.title; secret = short.secret; most = short.most }
put_short Moderated value d right short = record { title = short.title; secret = short.secret; most = short.most }
put_short ChangeSubject value d right short = record { title = short.title; secret = short.secret; most = short.most }
put_short Whois value d right short = record { title = short.title; secret = short.secret; most = short.most }
put_short Guarded value d right short = record { title = short.title; secret = short.secret; most = short.most }
put_short Secret value d right short = record { title = short.title; secret = leb-true (length value) 256 right; most = short.most }
put_short Most value d right short = record { title = short.title; secret = short.secret; most = number-from-le 0 value (omega arith) }

and_right : (b c : Bool) → (b && c) ≡ true → c ≡ true
and_right true c is = is
and_right false c is = absurd (let z : false ≡ true = is in cc)

not_false : (b : Bool) → not b ≡ false → b ≡ true
not_false true is = refl
not_false false is = absurd (let z : true ≡ false = is in cc)

one_short : (s : Option Setting) (values : List (List ℕ)) (d : Draft) → fits_by s values ≡ true → IsShortConfig d.config
    → IsShortConfig (put_by s values d).config
one_short None values d right short = short
one_short (Some s) values d right short =
    put_short s (first_value values) d (and_right (length values == 1) (fits s (first_value values)) right) short

all_short : (fields : List Field) (d : Draft) → list_any is_wrong fields ≡ false → IsShortConfig d.config → IsShortConfig (put_all fields d).config
all_short [] d right short = short
all_short (f ∷ more) d right short =
    let k = neither (is_wrong f) (list_any is_wrong more) right in
    all_short more (put_by (setting_named f.name) f.values d) k.1
    (one_short (setting_named f.name) f.values d (not_false (fits_by (setting_named f.name) f.values) k.0) short)

pub config_short : (fields : List Field) (c : Config) → list_any is_wrong fields ≡ false → IsShortConfig c
    → IsShortConfig (config_of (put_all fields (draft_of c)))
config_short fields c right short =
    let d : Draft = put_all fields (draft_of c) in
    let is : IsShortConfig d.config = all_short fields (draft_of c) right short in
    choose IsShortConfig d.guarded d.config (record d.config { secret = [] }) (λ (_ : _). is)
    (λ (_ : _). record { title = is.title; secret = omega arith; most = is.most })
