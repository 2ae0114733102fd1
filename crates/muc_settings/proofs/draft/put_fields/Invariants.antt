use Rattle.std.proofs.Common.{◌≡◌, drop}
use Rattle.muc_settings.specs.Drafts.{put_all}
use Rattle.muc_settings.proofs.draft.put_fields.Given as goal

abbrev pub invariant-loop-field : goal.invariant-loop-field
invariant-loop-field l = put_all (drop l.field-index l.fields) l.draft ≡ put_all l.fn.fields l.fn.draft
