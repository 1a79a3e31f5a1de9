use Rattle.std.proofs.Common.{◌≡◌, rules}
use Rattle.h3_header.specs.Parts.{head_of_parts}
use Rattle.h3_header.specs.Reads.{kind_of}
use Rattle.h3_header.specs.declared.headers.kind.FieldKind.TheVariants.{Regular}
use Rattle.h3_header.proofs.PseudoLemmas.{regular_ok, pseudo_ok, pseudo_err}
use Rattle.h3_header.proofs.headers.read.read_field.Goals as goal

pub returns-in-Regular-clause-ok : goal.returns-in-Regular-clause-ok
returns-in-Regular-clause-ok c =
    let kind : kind_of c.args.field.now.name ≡ Regular = search rules in
    regular_ok c.args.any_protocol c.append_field.result c.args.pseudo.now c.args.map.now c.append_field.new.map c.args.field.now _ _ kind c.name-in-Regular.ensures c.value.ensures c.append_field.ensures.ok

pub returns-in_default-clause-ok : goal.returns-in_default-clause-ok
returns-in_default-clause-ok c =
    let kind : c.of-kind.result ≡ kind_of c.args.field.now.name = search rules in
    pseudo_ok c.args.any_protocol c.read_pseudo.result c.args.pseudo.now c.read_pseudo.new.pseudo c.args.map.now c.args.field.now c.of-kind.result _ kind c.value-in_default.ensures c.in_default.not-Regular c.read_pseudo.ensures.ok

pub returns-in_default-clause-err : goal.returns-in_default-clause-err
returns-in_default-clause-err c =
    let kind : c.of-kind.result ≡ kind_of c.args.field.now.name = search rules in
    pseudo_err c.args.any_protocol c.read_pseudo.result (head_of_parts c.args.pseudo.now c.args.map.now) c.args.field.now c.of-kind.result _ kind c.value-in_default.ensures c.in_default.not-Regular c.read_pseudo.ensures.err
