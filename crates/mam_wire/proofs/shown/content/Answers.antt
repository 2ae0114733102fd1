use Rattle.std.proofs.Common.{◌∙◌, ◌++◌, ℕ, List, ap, subst, sym}
use Rattle.stanza_tree.specs.Spelling.{text}
use Rattle.std.specs.Prelude.{IsUtf8}
use Rattle.std.proofs.lemmas.Str.{IsUtf8-append}
use Rattle.mam_wire.specs.Results.{in_client_space}
use Rattle.mam_wire.proofs.Utf8Lemmas.{space-utf8}
use Rattle.mam_wire.proofs.shown.content.Goals as goal

pub of_vec-requires : goal.of_vec-requires
of_vec-requires c =
    subst IsUtf8 (sym c.in_ok-push_in_client_space.ensures)
    (IsUtf8-append c.write.new.out.items (in_client_space c.bytes.result.now)
    (subst IsUtf8 (sym (c.in_ok-write.ensures.ok ∙ ap (λ (l : List ℕ). l ++ text c.in_ok-delay.delay) c.new-out.ensures.items)) c.in_ok-write.ensures.utf8)
    (space-utf8 c.bytes.result.now (subst IsUtf8 (sym c.bytes.ensures.bytes) c.bytes.ensures.utf8)))
