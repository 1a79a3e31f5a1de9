use Rattle.std.proofs.Common.{◌≡◌, ◌^◌, ap, ◌∙◌}
use Rattle.h3_frames.specs.UnknownSize.{Sparing}
use Rattle.h3_frames.proofs.SparedPieces.{decoded_fits, none_spared, plain_expects}
use Rattle.h3_frames.proofs.frame.sparing.FrameBytes.decode.Goals as goal

pub invariant_of-self : goal.invariant_of-self
invariant_of-self c =
    let i = c.self.inside in
    let none : i.passing ≡ 0 = ap (λ (s : Sparing). s.passing) c.self.view_is ∙ c.requires.none in (
      c.self.invariant.0,
      decoded_fits c.args.kinds _ i.let_go.pieces i.kept.pieces c.decode_by.new.src.pieces (2 ^ 64) c.decode_by.ensures.gives c.self.invariant.1,
      none_spared i.passing i.gone c.decode_by.new.src.pieces none,
      c.self.invariant.3,
    )

pub decode_by-requires : goal.decode_by-requires
decode_by-requires c =
    let i = c.self.inside in
    record { expects = plain_expects i.known_to i.passing i.gone i.let_go.pieces i.kept.pieces c.args.self.now c.args.decoder.now c.self.invariant.0 c.self.view_is c.requires.none c.requires.expects }
