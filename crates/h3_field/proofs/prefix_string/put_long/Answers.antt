use Rattle.h3_field.proofs.Strings.{string_flags}
use Rattle.h3_field.proofs.prefix_string.put_long.Goals as goal

pub encode-requires-clause-flags : goal.encode-requires-clause-flags
encode-requires-clause-flags c = string_flags c.args.size c.args.flags c.requires.least c.requires.most c.requires.flags
