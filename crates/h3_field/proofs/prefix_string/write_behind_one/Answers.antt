use Rattle.h3_field.proofs.Strings.{string_flags}
use Rattle.h3_field.proofs.prefix_string.write_behind_one.Goals as goal

pub one_byte-requires-clause-flags : goal.one_byte-requires-clause-flags
one_byte-requires-clause-flags c = string_flags c.args.size c.args.flags c.requires.least c.requires.most c.requires.flags
