-- How long an item is, by itself and within its query.
use Rattle.std.proofs.Common.{◌≡◌, refl, arith, ◌+◌, length}
use Rattle.stanza_tree.specs.Spelling.{client_space, default_space, escaped_in_value, escaped_in_words, text_under}
use Rattle.stanza_tree.specs.declared.node.Element.{Element}
use Rattle.stanza_tree.proofs.LengthLemmas.{length_alone}
use Rattle.muc_admin.specs.Items.{admin_space}

declared : length (default_space client_space admin_space) ≡ 45
unfolding escaped_in_value escaped_in_words
declared = refl

undeclared : length (default_space admin_space admin_space) ≡ 0
undeclared = refl

-- by itself it declares its namespace
pub length_item : (e : Element) → e.name.space ≡ admin_space → length (text_under client_space e) ≡ length (text_under admin_space e) + 45
length_item e is = omega (arith, length_alone admin_space e is, declared, undeclared)
