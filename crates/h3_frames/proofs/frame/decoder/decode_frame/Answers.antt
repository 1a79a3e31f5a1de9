use Rattle.std.proofs.Common.{◌≡◌, ◌<◌, false, length, refl, subst, sym, ◌∙◌}
use Rattle.std.specs.List.{concat}
use Rattle.h3_frames.specs.Frames.{frame_by, has_head}
use Rattle.h3_frames.specs.Known.{Tries}
use Rattle.h3_frames.specs.Pieces.{IsRest}
use Rattle.h3_frames.proofs.FrameRows.{truth_apart}
use Rattle.h3_frames.proofs.frame.decoder.decode_frame.Goals as goal

pub returns-in-Some-clause-few : goal.returns-in-Some-clause-few
returns-in-Some-clause-few c = λ none. absurd (truth_apart (sym c.in-Some.ensures.whole ∙ none))

pub decode_known-requires : goal.decode_known-requires
decode_known-requires c =
    subst (λ p. frame_by c.args.kinds (concat p) ≡ frame_by (record c.args.kinds { updates = false }) (concat p)) (sym (c.in-None.ensures.same refl)) (c.in-None.ensures.none refl)

pub returns-in-None-clause-tries : goal.returns-in-None-clause-tries
returns-in-None-clause-tries c =
    subst (λ p. Tries c.decode_known.result (frame_by c.args.kinds (concat p)) (concat p) (concat c.decode_known.new.src.pieces)) (c.in-None.ensures.same refl) c.decode_known.ensures.tries

pub returns-in-None-clause-few : goal.returns-in-None-clause-few
returns-in-None-clause-few c =
    subst (λ p. has_head (concat p) ≡ false → length (concat p) < 16) (c.in-None.ensures.same refl) c.decode_known.ensures.few

pub returns-in-None-clause-rest : goal.returns-in-None-clause-rest
returns-in-None-clause-rest c = subst (λ p. IsRest p c.decode_known.new.src.pieces) (c.in-None.ensures.same refl) c.decode_known.ensures.rest
