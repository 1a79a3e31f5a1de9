use Rattle.std.proofs.Common.{◌∙◌, arith}
use Rattle.h3_messages.proofs.Surveys.{takes_named, te_named, unknown_named, colon_regular, colon_late}
use Rattle.h3_messages.specs.Messages.{is_pseudo}
use Rattle.h3_messages.proofs.seen.Seen.take_pseudo.Goals as goal

pub returns : goal.returns
returns c =
    let f = c.args.field.now in
    let e = c.requires.named in
    let p = c.requires.pseudo in
    let took = c.take_known.ensures in
    record {
      names = λ k.
          let t = takes_named f c.value-value.result.now c.args.known k _ _ e c.value-value.ensures (took.names k) in
          record { value = t.value; there = t.there; repeated = t.repeated };
      has_regular = colon_regular (is_pseudo f) c.args.self.now.has_regular _ p took.has_regular;
      is_out_of_order = colon_late (is_pseudo f) c.args.self.now.is_out_of_order c.args.self.now.has_regular _ p (took.is_out_of_order ∙ c.note-2.ensures);
      pseudo_is_known = unknown_named f c.args.known e;
      has_wrong_te = te_named f c.value-value.result.now c.args.known c.args.self.now.has_wrong_te _ e c.value-value.ensures took.has_wrong_te;
      has_spaced_value = grind arith;
    }
