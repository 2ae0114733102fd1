use Rattle.std.proofs.Common.{rules, ap, ◌∙◌, arith}
use Rattle.std.specs.Fmt.{decimal}
use Rattle.sha1.specs.Sha1.{sha1}
use Rattle.sha2.specs.Sha256.{sha256}
use Rattle.scram_core.specs.Login.{base64_of}
use Rattle.account_book.specs.Lines.{line_of}
use Rattle.account_book.specs.Keys.{entry_for, salted_password, stored_key, server_key}
use Rattle.account_book.proofs.LineLemmas.{line-made}
use Rattle.account_book.proofs.WrittenLemmas.{line-written}
use Rattle.account_book.proofs.make.make_line.Goals as goal

pub returns-clause-text : goal.returns-clause-text
returns-clause-text c =
    let one = salted_password sha1 c.args.password.now c.args.salt.now 4096 in
    let two = salted_password sha256 c.args.password.now c.args.salt.now 4096 in
    line-made c.args.name.now (decimal 4096) (base64_of c.args.salt.now) (base64_of (stored_key sha1 one)) (base64_of (server_key sha1 one))
    (base64_of (stored_key sha256 two))
    (base64_of (server_key sha256 two)) c.in_ok-line.line.items c.push_rounds.new.line.items c.push_base64.new.line.items c.push_keys_sha1.new.line.items
    c.push_keys_sha256.new.line.items c.push.new.self.items (search rules) (search rules) (search rules) (search rules) (search rules) (search rules)

pub returns-clause-read : goal.returns-clause-read
returns-clause-read c = λ local least most.
    ap line_of (returns-clause-text c)
    ∙ line-written (entry_for c.args.name.now c.args.password.now c.args.salt.now) (record {
      local_part = local;
      least_rounds = omega arith;
      most_rounds = omega arith;
      salt = record { least_is = least; most_is = most; are_bytes = search rules };
      stored1 = c.push_keys_sha1.ensures.stored;
      server1 = c.push_keys_sha1.ensures.server;
      stored256 = c.push_keys_sha256.ensures.stored;
      server256 = c.push_keys_sha256.ensures.server;
    })
