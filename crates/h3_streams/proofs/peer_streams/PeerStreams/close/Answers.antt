use Rattle.std.proofs.Common.{sym}
use Rattle.std.proofs.lemmas.Result.{IfOk-weaker}
use Rattle.h3_streams.specs.Plain.{plain_streams}
use Rattle.h3_streams.proofs.Joined.{all_same, same_itself, closes_first, closes_second, on_err}
use Rattle.h3_streams.proofs.peer_streams.PeerStreams.close.Goals as goal

pub returns-in_default-clause-err : goal.returns-in_default-clause-err
returns-in_default-clause-err c =
    let second = c.self.inside.kept.entries in
    rw (sym c.self.view_is) (all_same (plain_streams c.self.inside.plain) (plain_streams c.close.new.self) second second c.in_default.ensures.err (same_itself second))

pub returns-in-Ok-clause-ok : goal.returns-in-Ok-clause-ok
returns-in-Ok-clause-ok c =
    let there = rw c.into_inner.ensures.value at c.in-Some.ensures.some in
    let sets = rw c.into_inner-in-Some.ensures.value at c.in-Ok.ensures.ok in
    rw (sym c.self.view_is)
    (closes_first (plain_streams c.self.inside.plain) (plain_streams c.close.new.self) c.self.inside.kept.entries c.args.id c.args.code c.in-Some.role c.is_critical.result there c.is_critical.ensures sets)

pub returns-in-None-clause-ok : goal.returns-in-None-clause-ok
returns-in-None-clause-ok c =
    let none = rw c.into_inner.ensures.value at c.in-None.ensures.none in
    let first = plain_streams c.self.inside.plain in
    let second = c.self.inside.kept.entries in
    let later = c.close-in-None.new.streams.entries in
    rw (sym c.self.view_is) (IfOk-weaker c.close-in-None.result _ _ (λ critical closes. closes_second first second later c.args.id c.args.code critical none closes) c.close-in-None.ensures.ok)

pub returns-in-None-clause-err : goal.returns-in-None-clause-err
returns-in-None-clause-err c =
    let first = plain_streams c.self.inside.plain in
    let second = c.self.inside.kept.entries in
    let later = c.close-in-None.new.streams.entries in
    rw (sym c.self.view_is) (on_err c.close-in-None.result _ _ (λ same. all_same first first second later (same_itself first) same) c.close-in-None.ensures.err)
