use Rattle.std.proofs.Common.{◌≡◌, ◌^◌, ap, ◌∙◌}
use Rattle.h3_frames.specs.UnknownSize.{Sparing}
use Rattle.h3_frames.proofs.SparedPieces.{expects_plain, none_spared, plain_expects, rest_fits}
use Rattle.h3_frames.proofs.frame.sparing.FrameBytes.decode_first.Goals as goal

pub invariant_of-self : goal.invariant_of-self
invariant_of-self c =
    let i = c.self.inside in
    let none : i.passing ≡ 0 = ap (λ (s : Sparing). s.passing) c.self.view_is ∙ c.requires.none in (
      c.self.invariant.0,
      rest_fits i.let_go.pieces i.kept.pieces c.decode_first.new.src.pieces (2 ^ 64) c.decode_first.ensures.rest c.self.invariant.1,
      none_spared i.passing i.gone c.decode_first.new.src.pieces none,
      c.self.invariant.3,
    )

pub decode_first-requires : goal.decode_first-requires
decode_first-requires c =
    let i = c.self.inside in
    record { expects = plain_expects i.known_to i.passing i.gone i.let_go.pieces i.kept.pieces c.args.self.now c.args.decoder.now c.self.invariant.0 c.self.view_is c.requires.none c.requires.expects }

pub returns-clause-expects : goal.returns-clause-expects
returns-clause-expects c =
    let i = c.self.inside in
    let none : i.passing ≡ 0 = ap (λ (s : Sparing). s.passing) c.self.view_is ∙ c.requires.none in
    expects_plain i.known_to i.passing i.gone i.let_go.pieces c.decode_first.new.src.pieces c.decode_first.new.self c.self.invariant.0 none c.decode_first.ensures.expects
