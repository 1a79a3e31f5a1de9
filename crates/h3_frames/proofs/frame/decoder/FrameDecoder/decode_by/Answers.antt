use Rattle.std.proofs.Common.{◌≡◌, ◌<◌, sym, refl, subst, length, Ok}
use Rattle.std.specs.Prelude.{None, IfSome}
use Rattle.std.specs.List.{concat}
use Rattle.h3_frames.specs.Frames.{plain_frames}
use Rattle.h3_frames.specs.Known.{Gives}
use Rattle.h3_frames.specs.KnownLaws.{unknown_shorter}
use Rattle.h3_frames.specs.MessageFrames.{any_frame}
use Rattle.h3_frames.specs.PieceLaws.{rest_is, rest_same, rest_then}
use Rattle.h3_frames.specs.Tries.{Counts, Expects, finds, passes, finds_less, refuses, wants_memory}
use Rattle.h3_frames.proofs.SuitingKinds.{expects_as}
use Rattle.h3_frames.proofs.Tries.{expects_next}
use Rattle.h3_frames.proofs.Settling.{settled, found, waits, wants, passed, given_on, if_any, still_on}
use Rattle.h3_frames.proofs.frame.decoder.FrameDecoder.decode_by.Goals as goal

pub loop-answer-init : goal.loop-answer-init
loop-answer-init c =
    record { same = refl; expects = c.requires.expects; rest = rest_same _ _ refl; counts = λ answer new h. h }

pub returns-in-Some-clause-gives : goal.returns-in-Some-clause-gives
returns-in-Some-clause-gives c =
    let given = given_on c.args.kinds (any_frame c.in-Some.answer) _ _ _ (c.in-Some.ensures.gives c.args.kinds) c.loop-answer.invariant.same in
    subst (λ o. Gives c.args.kinds (Ok o) (concat c.args.src.now.pieces) (concat c.decode_first.new.src.pieces)) (sym c.any_frame.ensures) given

pub returns-in-Some-clause-fresh : goal.returns-in-Some-clause-fresh
returns-in-Some-clause-fresh c =
    subst (λ o. IfSome o (λ f. c.decode_first.new.self.expected ≡ None)) (sym c.any_frame.ensures) (if_any c.in-Some.answer (λ h. h) c.in-Some.ensures.fresh)

pub returns-in-Some-clause-counts : goal.returns-in-Some-clause-counts
returns-in-Some-clause-counts c =
    let counts = c.loop-answer.invariant.counts _ _ (c.in-Some.ensures.counts c.args.kinds) in
    subst (λ o. Counts c.args.kinds c.args.self.now (concat c.args.src.now.pieces) (Ok o) c.decode_first.new.self) (sym c.any_frame.ensures) counts

pub returns-in-Some-clause-pieces : goal.returns-in-Some-clause-pieces
returns-in-Some-clause-pieces c =
    rest_is _ _ _ refl (rest_then _ _ _ c.loop-answer.invariant.rest c.in-Some.ensures.rest)

pub returns-in-Frame-clause-gives : goal.returns-in-Frame-clause-gives
returns-in-Frame-clause-gives c =
    let t = still_on c.args.kinds _ _ _ _ _ _ (c.in_default.ensures.none refl) (c.in_default.ensures.enough refl) c.loop-answer.invariant in
    found c.args.kinds _ _ _ _ c.in-Frame.ensures.tries t.on.same

pub returns-in-Frame-clause-counts : goal.returns-in-Frame-clause-counts
returns-in-Frame-clause-counts c =
    let t = still_on c.args.kinds _ _ _ _ _ _ (c.in_default.ensures.none refl) (c.in_default.ensures.enough refl) c.loop-answer.invariant in
    t.on.counts _ _ (finds c.decode_first.new.self _ _ _ c.in-Frame.frame t.enough c.in-Frame.ensures.tries c.count.ensures)

pub returns-in-Waits-clause-gives : goal.returns-in-Waits-clause-gives
returns-in-Waits-clause-gives c =
    let t = still_on c.args.kinds _ _ _ _ _ _ (c.in_default.ensures.none refl) (c.in_default.ensures.enough refl) c.loop-answer.invariant in
    waits c.args.kinds _ _ _ c.in-Waits.least c.in-Waits.ensures.tries.0 t.on.same c.in-Waits.ensures.tries.1

pub returns-in-Waits-clause-expects : goal.returns-in-Waits-clause-expects
returns-in-Waits-clause-expects c =
    let t = still_on c.args.kinds _ _ _ _ _ _ (c.in_default.ensures.none refl) (c.in_default.ensures.enough refl) c.loop-answer.invariant in
    expects_next c.args.kinds c.decode_first.new.self _ c.in-Waits.least _ _ (expects_as c.args.kinds _ _ t.on.expects) t.enough c.in-Waits.ensures.tries.0 c.in-Waits.ensures.few c.in-Waits.ensures.tries.1 c.count-in-Waits.ensures

pub returns-in-Waits-clause-counts : goal.returns-in-Waits-clause-counts
returns-in-Waits-clause-counts c =
    let t = still_on c.args.kinds _ _ _ _ _ _ (c.in_default.ensures.none refl) (c.in_default.ensures.enough refl) c.loop-answer.invariant in
    t.on.counts _ _ (finds_less c.decode_first.new.self _ _ c.in-Waits.least t.enough c.in-Waits.ensures.tries.0 c.count-in-Waits.ensures)

pub returns-in-Refused-clause-gives : goal.returns-in-Refused-clause-gives
returns-in-Refused-clause-gives c =
    let t = still_on c.args.kinds _ _ _ _ _ _ (c.in_default.ensures.none refl) (c.in_default.ensures.enough refl) c.loop-answer.invariant in
    settled c.args.kinds _ _ _ _ c.in-Refused.ensures.tries.0 tt t.on.same c.in-Refused.ensures.tries.1

pub returns-in-Refused-clause-counts : goal.returns-in-Refused-clause-counts
returns-in-Refused-clause-counts c =
    let t = still_on c.args.kinds _ _ _ _ _ _ (c.in_default.ensures.none refl) (c.in_default.ensures.enough refl) c.loop-answer.invariant in
    t.on.counts _ _ (refuses c.decode_first.new.self _ _ c.in-Refused.e t.enough c.in-Refused.ensures.tries.0 refl)

pub returns-in-OutOfMemory-clause-gives : goal.returns-in-OutOfMemory-clause-gives
returns-in-OutOfMemory-clause-gives c =
    let t = still_on c.args.kinds _ _ _ _ _ _ (c.in_default.ensures.none refl) (c.in_default.ensures.enough refl) c.loop-answer.invariant in
    wants c.args.kinds _ _ _ c.in-OutOfMemory.ensures.tries.0 t.on.same c.in-OutOfMemory.ensures.tries.1

pub returns-in-OutOfMemory-clause-counts : goal.returns-in-OutOfMemory-clause-counts
returns-in-OutOfMemory-clause-counts c =
    let t = still_on c.args.kinds _ _ _ _ _ _ (c.in_default.ensures.none refl) (c.in_default.ensures.enough refl) c.loop-answer.invariant in
    t.on.counts _ _ (wants_memory c.decode_first.new.self _ _ t.enough c.in-OutOfMemory.ensures.tries.0 refl)

pub returns-in-Frame-clause-pieces : goal.returns-in-Frame-clause-pieces
returns-in-Frame-clause-pieces c =
    let t = still_on c.args.kinds _ _ _ _ _ _ (c.in_default.ensures.none refl) (c.in_default.ensures.enough refl) c.loop-answer.invariant in
    rest_is _ _ _ refl (rest_then _ _ _ t.on.rest c.in-Frame.ensures.rest)

pub returns-in-Waits-clause-pieces : goal.returns-in-Waits-clause-pieces
returns-in-Waits-clause-pieces c =
    let t = still_on c.args.kinds _ _ _ _ _ _ (c.in_default.ensures.none refl) (c.in_default.ensures.enough refl) c.loop-answer.invariant in
    rest_is _ _ _ refl (rest_then _ _ _ t.on.rest c.in-Waits.ensures.rest)

pub returns-in-Refused-clause-pieces : goal.returns-in-Refused-clause-pieces
returns-in-Refused-clause-pieces c =
    let t = still_on c.args.kinds _ _ _ _ _ _ (c.in_default.ensures.none refl) (c.in_default.ensures.enough refl) c.loop-answer.invariant in
    rest_is _ _ _ refl (rest_then _ _ _ t.on.rest c.in-Refused.ensures.rest)

pub returns-in-OutOfMemory-clause-pieces : goal.returns-in-OutOfMemory-clause-pieces
returns-in-OutOfMemory-clause-pieces c =
    let t = still_on c.args.kinds _ _ _ _ _ _ (c.in_default.ensures.none refl) (c.in_default.ensures.enough refl) c.loop-answer.invariant in
    rest_is _ _ _ refl (rest_then _ _ _ t.on.rest c.in-OutOfMemory.ensures.rest)

pub loop-answer-smaller : goal.loop-answer-smaller
loop-answer-smaller c =
    let tried = c.in-Unknown.ensures.tries in
    let none = c.in_default.ensures.none refl in
    subst (λ p. length (concat c.decode_frame.new.src.pieces) < length (concat p)) none.1 (unknown_shorter c.args.kinds tried.0 _ _ tried.1)

pub loop-answer-preserved : goal.loop-answer-preserved
loop-answer-preserved c =
    let t = still_on c.args.kinds _ _ _ _ _ _ (c.in_default.ensures.none refl) (c.in_default.ensures.enough refl) c.loop-answer.invariant in
    let tried = c.in-Unknown.ensures.tries in
    let left = concat c.decode_frame.new.src.pieces in
    record {
      same = passed c.args.kinds _ _ _ tried.0 tried.1 t.on.same;
      expects = subst (λ d. Expects plain_frames d left) (sym c.count-in-Unknown.ensures) tt;
      rest = rest_then _ _ _ t.on.rest c.in-Unknown.ensures.rest;
      counts = λ answer new h. t.on.counts answer new (passes c.decode_first.new.self new _ _ tried.0 answer t.enough tried.1 (subst (λ d. Counts c.args.kinds d left answer new) c.count-in-Unknown.ensures h));
    }

pub returns-in-Some-clause-expects : goal.returns-in-Some-clause-expects
returns-in-Some-clause-expects c = expects_as c.args.kinds _ _ c.in-Some.ensures.expects

pub returns-in-Refused-clause-expects : goal.returns-in-Refused-clause-expects
returns-in-Refused-clause-expects c =
    let t = still_on c.args.kinds _ _ _ _ _ _ (c.in_default.ensures.none refl) (c.in_default.ensures.enough refl) c.loop-answer.invariant in
    subst (λ l. Expects c.args.kinds c.decode_first.new.self l) (sym c.in-Refused.ensures.tries.1) (expects_as c.args.kinds _ _ t.on.expects)

pub returns-in-OutOfMemory-clause-expects : goal.returns-in-OutOfMemory-clause-expects
returns-in-OutOfMemory-clause-expects c =
    let t = still_on c.args.kinds _ _ _ _ _ _ (c.in_default.ensures.none refl) (c.in_default.ensures.enough refl) c.loop-answer.invariant in
    subst (λ l. Expects c.args.kinds c.decode_first.new.self l) (sym c.in-OutOfMemory.ensures.tries.1) (expects_as c.args.kinds _ _ t.on.expects)
