use Rattle.h3_field.proofs.Strings.{plain_flags}
use Rattle.h3_field.proofs.prefix_string.write_plain.Goals as goal

pub one_byte-requires-clause-flags : goal.one_byte-requires-clause-flags
one_byte-requires-clause-flags c = plain_flags c.args.size c.args.flags c.requires.least c.requires.most c.requires.flags
