use Rattle.std.proofs.Common.{refl, sym, ◌∙◌}
use Rattle.h3_frames.specs.PieceLaws.{ending_rest, rest_same}
use Rattle.h3_connection.specs.SkippingLaws.{rest_shorter}
use Rattle.h3_connection.specs.StrictConnection.{kinds_of}
use Rattle.h3_incoming.proofs.FrontLaws.{error_passes, finds_frame, passes_empty, within_refused}
use Rattle.h3_incoming.proofs.stream.front.front_one.Goals as goal

pub returns-in-Err : goal.returns-in-Err
returns-in-Err c = record {
  finds = tt;
  within = tt;
  between = tt;
  on = tt;
  less = tt;
  err = error_passes (kinds_of c.args.announced.now) c.args.side c.args.place c.args.content _ _ _ c.in-Err.ensures.gives;
  rest = ending_rest _ _ _ c.next_begun.ensures.pieces;
}

pub returns-then-is_excessive-clause-rest : goal.returns-then-is_excessive-clause-rest
returns-then-is_excessive-clause-rest c = rest_same _ _ refl

pub returns-then-begins_section-clause-rest : goal.returns-then-begins_section-clause-rest
returns-then-begins_section-clause-rest c = rest_same _ _ refl

-- a frame without a payload, in a body
pub returns-then-is_empty-clause-on : goal.returns-then-is_empty-clause-on
returns-then-is_empty-clause-on c =
    let given = rw c.in-Ok-Some.field-0-is at c.in-Ok-Some.ensures.gives in
    passes_empty _ _ _ _ given.0 given.2 (given.1.empty ∙ sym c.is_empty.ensures ∙ c.if-is_empty.true)

pub returns-then-is_empty-clause-less : goal.returns-then-is_empty-clause-less
returns-then-is_empty-clause-less c =
    let given = rw c.in-Ok-Some.field-0-is at c.in-Ok-Some.ensures.gives in
    rest_shorter _ _ _ given.0 given.2

-- any other frame
pub returns-else-is_empty-clause-finds : goal.returns-else-is_empty-clause-finds
returns-else-is_empty-clause-finds c =
    let given = rw c.in-Ok-Some.field-0-is at c.in-Ok-Some.ensures.gives in
    (given.0, given.1, finds_frame _ _ _ _ _ given.2 (given.1.empty ∙ sym c.is_empty.ensures ∙ c.if-is_empty.false))

pub returns-in-Err-Proto-clause-within : goal.returns-in-Err-Proto-clause-within
returns-in-Err-Proto-clause-within c =
    let given = rw c.in-Err-Proto.field-0-is at c.in-Err-Proto.ensures.gives in
    within_refused _ _ _ _ _ _ given.0 given.1 (sym c.is_excessive.ensures ∙ c.if-is_excessive.false)
