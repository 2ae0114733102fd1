-- What a submitted form makes of a room's configuration (XEP-0045, 10.2 and 15.5; XEP-0004, 3).
use Rattle.std.specs.Prelude.{ℕ, ◌+◌, ◌-◌, ◌*◌, ◌==◌, nat_le, min, List, [], ◌∷◌, length, Bool, true, false, not, ◌&&◌, ◌||◌}
use Rattle.std.specs.Prelude.{codes, bytes_eq, slice_get, Option, Some, None, unwrap_or, if◌then◌else◌}
use Rattle.std.specs.Char.{is_ascii_digit}
use Rattle.std.specs.List.{list_all, list_any}
use Rattle.stanza_model.specs.declared.form.Field.{Field}
use Rattle.stanza_model.specs.declared.shared.Config.{Config}
use Rattle.muc_settings.specs.Settings.{is_guarded, is_named, roomconfig, setting_named}
use Rattle.muc_settings.specs.declared.draft.Draft.{Draft}
use Rattle.muc_settings.specs.declared.setting.Setting.{Setting}
use Rattle.muc_settings.specs.declared.setting.Setting.TheVariants.{FormType, Title, Persistent, MembersOnly, Moderated}
use Rattle.muc_settings.specs.declared.setting.Setting.TheVariants.{ChangeSubject, Whois, Guarded, Secret, Most}

-- Which values a setting can have.

-- the most bytes of a title, and of a password
abbrev pub most_bytes : ℕ
most_bytes = 256

abbrev pub is_short : List ℕ → Bool
is_short value = nat_le (length value) most_bytes

-- XML Schema Part 2, 3.2.2
abbrev pub is_yes : List ℕ → Bool
is_yes value = bytes_eq value (codes "1") || bytes_eq value (codes "true")

abbrev pub is_flag : List ℕ → Bool
is_flag value = is_yes value || bytes_eq value (codes "0") || bytes_eq value (codes "false")

abbrev pub is_anyone : List ℕ → Bool
is_anyone value = bytes_eq value (codes "anyone")

abbrev pub is_whois : List ℕ → Bool
is_whois value = is_anyone value || bytes_eq value (codes "moderators")

-- the number that decimal digits write after this one; a number of 1000 stands for more
abbrev pub number_from : ℕ → List ℕ → ℕ
number_from n [] = n
number_from n (digit ∷ more) = number_from (min (n * 10 + (digit - 48)) 1000) more

abbrev pub number_of : List ℕ → ℕ
number_of digits = number_from 0 digits

-- digits that write a number from 1 to 256
abbrev pub is_most : List ℕ → Bool
is_most value = list_all is_ascii_digit value && nat_le 1 (number_of value) && nat_le (number_of value) 256

abbrev pub fits : Setting → List ℕ → Bool
fits FormType value = bytes_eq value roomconfig
fits Title value = is_short value
fits Persistent value = is_flag value
fits MembersOnly value = is_flag value
fits Moderated value = is_flag value
fits ChangeSubject value = is_flag value
fits Whois value = is_whois value
fits Guarded value = is_flag value
fits Secret value = is_short value
fits Most value = is_most value

-- the value of a field, which has one
abbrev pub first_value : List (List ℕ) → List ℕ
first_value values = unwrap_or (slice_get values 0) []

-- XEP-0004, 3.2: one, and no more
abbrev pub value_fits : Setting → List (List ℕ) → Bool
value_fits s values = length values == 1 && fits s (first_value values)

-- a field of another name is none of the room's, whatever its values
abbrev pub fits_by : Option Setting → List (List ℕ) → Bool
fits_by None values = true
fits_by (Some s) values = value_fits s values

abbrev pub is_wrong : Field → Bool
is_wrong f = not (fits_by (setting_named f.name) f.values)

-- XEP-0068, 3.1: a form that has fields says of which type it is
abbrev pub names_type : Field → Bool
names_type f = is_named f.name FormType

abbrev pub lacks_type : List Field → Bool
lacks_type fields = not (length fields == 0) && not (list_any names_type fields)

-- What becomes of the configuration, where each value fits.

-- a configuration, and whether a password is to be asked for
abbrev pub draft_of : Config → Draft
draft_of c = record { config = c; guarded = is_guarded c }

abbrev pub put : Setting → List ℕ → Draft → Draft
put FormType value d = d
put Title value d = record d { config = record d.config { title = value } }
put Persistent value d = record d { config = record d.config { persistent = is_yes value } }
put MembersOnly value d = record d { config = record d.config { members_only = is_yes value } }
put Moderated value d = record d { config = record d.config { moderated = is_yes value } }
put ChangeSubject value d = record d { config = record d.config { change_subject = is_yes value } }
put Whois value d = record d { config = record d.config { anyone = is_anyone value } }
put Guarded value d = record d { guarded = is_yes value }
put Secret value d = record d { config = record d.config { secret = value } }
put Most value d = record d { config = record d.config { max = number_of value } }

abbrev pub put_by : Option Setting → List (List ℕ) → Draft → Draft
put_by None values d = d
put_by (Some s) values d = put s (first_value values) d

-- the fields in their order; a setting without a field stays as it is
abbrev pub put_all : List Field → Draft → Draft
put_all [] d = d
put_all (f ∷ more) d = put_all more (put_by (setting_named f.name) f.values d)

-- a password is to be asked for, and there is none
abbrev pub lacks_password : Draft → Bool
lacks_password d = d.guarded && length d.config.secret == 0

-- where none is asked for, there is none
abbrev pub config_of : Draft → Config
config_of d = if d.guarded then d.config else record d.config { secret = [] }
