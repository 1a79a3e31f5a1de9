use Rattle.std.proofs.Common.{drop, sym, ◌∙◌}
use Rattle.std.specs.List.{concat}
use Rattle.h3_frames.specs.ExcessiveLaws.{data_says, kept_says}
use Rattle.h3_frames.proofs.Heads.{head_in_first}
use Rattle.h3_frames.proofs.frame.excess.is_first_excessive.Goals as goal

pub returns-then-is_kept_whole : goal.returns-then-is_kept_whole
returns-then-is_kept_whole c = λ kinds.
    let head = c.in_ok-head.head in
    let all = concat c.args.src.now.pieces in
    let here = head_in_first head.kind head.number head.size c.args.src.now.pieces c.first_bytes.result.now c.first_bytes.ensures c.in_ok-head.ensures.inside.1 c.in_ok-head.ensures.begins in
    sym (kept_says kinds c.args.most head.kind head.number all here.0 (drop head.size all) c.requires (sym c.is_kept_whole.ensures ∙ c.if-is_kept_whole.true) here.1 here.2)

pub returns-then-head-eq0 : goal.returns-then-head-eq0
returns-then-head-eq0 c = λ kinds.
    let head = c.in_ok-head.head in
    let all = concat c.args.src.now.pieces in
    let here = head_in_first head.kind head.number head.size c.args.src.now.pieces c.first_bytes.result.now c.first_bytes.ensures c.in_ok-head.ensures.inside.1 c.in_ok-head.ensures.begins in
    sym (data_says kinds c.args.most head.kind head.number all here.0 (drop head.size all) (sym c.is_kept_whole.ensures ∙ c.if-is_kept_whole.false) c.if-head-eq0.true here.1 here.2)
