use Rattle.std.proofs.Common.{inl, refl}
use Rattle.conn_serve.proofs.Listening.{comes_late, hears_bytes, hears_no_more, is_failed, is_hung, is_quiet, loses_bytes}
use Rattle.conn_serve.proofs.Passing.{ends_read, ends_unread}
use Rattle.conn_serve.proofs.listen.read.Goals as goal

pub returns-in_default-clause-read : goal.returns-in_default-clause-read
returns-in_default-clause-read g c = λ o p turns drawn dice at.
    rw c.in_default.ensures.unread (hears_no_more o p _ _ _ _ _ at c.requires.rests c.moment.ensures)

pub returns-then-is_late-clause-read : goal.returns-then-is_late-clause-read
returns-then-is_late-clause-read g c = λ o p turns drawn dice at.
    let told = rw c.in-Bytes.is at c.in-Ok.ensures.told in
    comes_late o p _ _ _ _ _ _ _ _ turns _ _ drawn _ _ _ _ dice at c.requires.rests c.requires.none told.0
    c.if-is_late.ensures c.late.ensures c.clear.ensures told.1 c.moment-moment.ensures.told c.in-Ok.ensures.kept
    c.in-Ok.ensures.ends_kept

pub returns-in-Ok-hear-clause-read : goal.returns-in-Ok-hear-clause-read
returns-in-Ok-hear-clause-read g c = λ o p turns drawn dice at.
    let told = rw c.in-Bytes.is at c.in-Ok.ensures.told in
    hears_bytes o p _ _ _ _ _ _ _ _ turns _ _ drawn _ _ _ _ dice at c.requires.rests c.requires.none told.0
    c.if-is_late.ensures c.in-Ok-hear.ensures told.1 c.moment-moment.ensures.told c.in-Ok.ensures.kept c.in-Ok.ensures.ends_kept

pub returns-in-Err-clause-read : goal.returns-in-Err-clause-read
returns-in-Err-clause-read g c = λ o p turns drawn dice at.
    let told = rw c.in-Bytes.is at c.in-Ok.ensures.told in
    loses_bytes o p _ _ _ _ _ _ turns _ _ drawn _ _ _ _ dice at c.requires.rests c.requires.none told.0
    c.if-is_late.ensures told.1 c.moment-moment.ensures.told c.in-Ok.ensures.kept c.in-Ok.ensures.ends_kept

pub returns-in-Quiet-clause-read : goal.returns-in-Quiet-clause-read
returns-in-Quiet-clause-read g c = λ o p turns drawn dice at.
    let told = rw c.in-Quiet.is at c.in-Ok.ensures.told in
    is_quiet o p _ _ _ _ _ _ _ turns _ _ drawn _ _ _ _ dice at c.requires.rests c.requires.none
    told.0 c.quiet.ensures told.1 c.moment-moment.ensures.told c.in-Ok.ensures.kept c.in-Ok.ensures.ends_kept

pub returns-in-End-clause-read : goal.returns-in-End-clause-read
returns-in-End-clause-read g c = λ o p turns drawn dice at.
    let told = rw c.in-End.is at c.in-Ok.ensures.told in
    is_hung o p _ _ _ _ _ _ _ turns _ _ drawn _ _ _ _ dice at c.requires.rests c.requires.none
    told.0 c.hung.ensures told.1 c.moment-moment.ensures.told c.in-Ok.ensures.kept c.in-Ok.ensures.ends_kept
    (rw c.in-End.is at c.in-Ok.ensures.ended refl)

pub returns-in-Failed-clause-read : goal.returns-in-Failed-clause-read
returns-in-Failed-clause-read g c = λ o p turns drawn dice at.
    let told = rw c.in-Failed.is at c.in-Ok.ensures.told in
    is_failed o p _ _ _ _ _ turns _ _ drawn _ _ _ _ dice at c.requires.rests c.requires.none
    told.1 c.moment-moment.ensures.told c.in-Ok.ensures.kept c.in-Ok.ensures.ends_kept (rw c.in-Failed.is at c.in-Ok.ensures.cause refl)

pub returns-in_default-clause-once : goal.returns-in_default-clause-once
returns-in_default-clause-once g c = ends_unread _ _ _ c.moment.result (inl refl)

pub returns-in-Err-clause-once : goal.returns-in-Err-clause-once
returns-in-Err-clause-once g c = ends_read _ _ _ c.moment-moment.result (c.moment-moment.result, c.moment-moment.ensures.told)

pub returns-in-Failed-clause-once : goal.returns-in-Failed-clause-once
returns-in-Failed-clause-once g c = ends_read _ _ _ c.moment-moment.result (c.moment-moment.result, c.moment-moment.ensures.told)
