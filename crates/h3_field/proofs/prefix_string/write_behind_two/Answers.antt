use Rattle.h3_field.proofs.Strings.{string_flags}
use Rattle.h3_field.proofs.prefix_string.write_behind_two.Goals as goal

pub two_bytes-requires-clause-flags : goal.two_bytes-requires-clause-flags
two_bytes-requires-clause-flags c = string_flags c.args.size c.args.flags c.requires.least c.requires.most c.requires.flags
