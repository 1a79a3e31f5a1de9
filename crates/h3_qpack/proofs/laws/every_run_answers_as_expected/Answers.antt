use Rattle.h3_qpack.proofs.Runs.{run_as_expected}
use Rattle.h3_qpack.proofs.BytesRead.{bytes_read}
use Rattle.h3_qpack.proofs.laws.every_run_answers_as_expected.Goals as goal

pub returns : goal.returns
returns c = λ capacity limit events answers end small run.
    let x = run_as_expected capacity limit events answers end small run in
    (x.session, x.expected, λ n within came. bytes_read capacity end x.session n x.stands within came)
