use Rattle.std.proofs.Common.{◌≡◌, sym, ◌∙◌}
use Rattle.h3_priority.proofs.ParameterLoop.{IsParameter, shorter, same, refused, done, taken}
use Rattle.h3_priority.proofs.cursor.Cursor.parameters.Goals as goal

parameter_read : (c : goal.In_ok-parameter) → IsParameter c.parameters.self c.take.new.self c.parameter.new.self c.in_ok-parameter.field-0
parameter_read c = record {
  begins = sym c.take.ensures.begins ∙ c.parameters-test.true;
  taken_is = taken c.take.result c.parameters.self c.take.new.self c.parameters-test.true c.take.ensures.rest;
  read = c.in_ok-parameter.ensures;
}

pub parameters-smaller : goal.parameters-smaller
parameters-smaller c = shorter _ _ _ _ (parameter_read c)

pub parameters-preserved : goal.parameters-preserved
parameters-preserved c = c.parameters.invariant ∙ same _ _ _ _ (parameter_read c)

pub returns-in_err-parameter : goal.returns-in_err-parameter
returns-in_err-parameter c =
    let none = c.parameters.invariant ∙ refused _ _ (sym c.take.ensures.begins ∙ c.parameters-test.true) (taken c.take.result c.parameters.self c.take.new.self c.parameters-test.true c.take.ensures.rest) c.in_err-parameter.ensures in
    rw c.from_residual.ensures none

pub returns : goal.returns
returns c =
    let rest : c.take.new.self ≡ c.parameters.self = rw c.parameters-test.false at c.take.ensures.rest in
    rw rest (c.parameters.invariant ∙ done _ (sym c.take.ensures.begins ∙ c.parameters-test.false))
