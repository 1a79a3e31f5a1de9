use Rattle.std.proofs.Common.{◌++◌, ◌∷◌, [], append-nil, ap, ◌∙◌}
use Rattle.std.specs.List.{concat}
use Rattle.std.proofs.lemmas.List.Folds.{concat-append}
use Rattle.h3_frames.proofs.buf.BufList.push_reserved.Goals as goal

pub returns-clause-bytes : goal.returns-clause-bytes
returns-clause-bytes g c =
    let pieces = c.args.self.now.pieces in
    let more = g.T.Buf.unread c.args.piece in
    ap concat c.put.ensures.pieces ∙ concat-append pieces (more ∷ []) ∙ ap (λ l. concat pieces ++ l) (append-nil more)
