use Rattle.std.proofs.Common.{◌≡◌, Some, None, refl, arith}
use Rattle.h3_messages.proofs.Surveys.{takes_named, te_named, takes_none, te_none, plain_regular, plain_late, plain_unknown}
use Rattle.h3_messages.specs.Known.{known_of}
use Rattle.h3_messages.specs.Messages.{is_pseudo}
use Rattle.h3_messages.proofs.seen.Seen.take_regular.Goals as goal

pub returns-in-Some : goal.returns-in-Some
returns-in-Some c =
    let f = c.args.field.now in
    let known = c.in-Some.known in
    let e : Some known ≡ known_of f.name = cc in
    let p = c.requires in
    let took = c.take_known.ensures in
    record {
      names = λ k.
          let t = takes_named f c.value-value.result.now known k _ _ e c.value-value.ensures (took.names k) in
          record { value = t.value; there = t.there; repeated = t.repeated };
      has_regular = plain_regular (is_pseudo f) c.args.self.now.has_regular _ p took.has_regular;
      is_out_of_order = plain_late (is_pseudo f) c.args.self.now.is_out_of_order c.args.self.now.has_regular _ p took.is_out_of_order;
      pseudo_is_known = plain_unknown f p;
      has_wrong_te = te_named f c.value-value.result.now known c.args.self.now.has_wrong_te _ e c.value-value.ensures took.has_wrong_te;
      has_spaced_value = grind arith;
    }

pub returns-in-None : goal.returns-in-None
returns-in-None c =
    let f = c.args.field.now in
    let e : None ≡ known_of f.name = cc in
    let p = c.requires in
    record {
      names = λ k. let t = takes_none f k c.args.self.now e in record { value = t.value; there = t.there; repeated = t.repeated };
      has_regular = plain_regular (is_pseudo f) c.args.self.now.has_regular _ p refl;
      is_out_of_order = plain_late (is_pseudo f) c.args.self.now.is_out_of_order c.args.self.now.has_regular _ p refl;
      pseudo_is_known = plain_unknown f p;
      has_wrong_te = te_none f c.args.self.now.has_wrong_te e;
      has_spaced_value = grind arith;
    }
