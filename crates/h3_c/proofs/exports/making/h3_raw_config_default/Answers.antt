use Rattle.std.proofs.Common.{◌*◌, ◌∙◌, length, ap}
use Rattle.h3_outgoing.specs.Copied.{put}
use Rattle.h3_c.specs.Configs.{numbers_of}
use Rattle.h3_c.proofs.exports.making.h3_raw_config_default.Goals as goal

-- the defaults, behind the size
pub returns : goal.returns
returns c =
    c.put_front.ensures ∙ ap (λ numbers. put numbers c.args.config.now) (c.numbers-numbers.ensures ∙ ap (λ d. numbers_of (8 * length c.args.config.now) d) c.default.ensures)
