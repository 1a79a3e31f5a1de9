use Rattle.std.proofs.Common.{subst, inr}
use Rattle.h3_script.specs.Inputs.{Fails}
use Rattle.h3_script.proofs.input.read_script.Goals as goal

pub returns-in-Err-Line-clause-refused : goal.returns-in-Err-Line-clause-refused
returns-in-Err-Line-clause-refused g c = λ one.
    let failed = subst (Fails (g.R.Read.remaining c.args.reader.now) (g.R.Read.remaining c.read.new.reader)) c.in-Err-Line.field-0-is c.in-Err-Line.ensures.err in
    record { text = failed.text; number = c.in-Err-Line.number; read = failed.read; refuses = failed.refuses; written = c.refuse.ensures.refused one }

pub returns-in-Err-Line-clause-lost : goal.returns-in-Err-Line-clause-lost
returns-in-Err-Line-clause-lost g c = λ two.
    inr (record {
      number = c.in-Err-Line.number;
      refused = subst (Fails (g.R.Read.remaining c.args.reader.now) (g.R.Read.remaining c.read.new.reader)) c.in-Err-Line.field-0-is c.in-Err-Line.ensures.err;
    })
