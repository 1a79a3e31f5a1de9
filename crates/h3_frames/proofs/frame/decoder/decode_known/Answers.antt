use Rattle.std.proofs.Common.{refl, subst, sym, ◌∙◌}
use Rattle.std.specs.List.{concat}
use Rattle.h3_frames.specs.Known.{Tries}
use Rattle.h3_frames.proofs.FrameRows.{truth_apart}
use Rattle.h3_frames.proofs.LettingGo.{unknown_has_head}
use Rattle.h3_frames.proofs.frame.decoder.decode_known.Goals as goal

pub returns-in-Some-clause-few : goal.returns-in-Some-clause-few
returns-in-Some-clause-few c = λ none. absurd (truth_apart (sym (unknown_has_head c.args.kinds (concat c.args.src.now.pieces) c.in-Some.size c.in-Some.ensures.some) ∙ none))

pub returns-in-None-clause-tries : goal.returns-in-None-clause-tries
returns-in-None-clause-tries c =
    subst (λ x. Tries c.decode_plain.result x (concat c.args.src.now.pieces) (concat c.decode_plain.new.src.pieces)) (sym (c.requires ∙ c.in-None.ensures.none refl)) c.decode_plain.ensures.tries
