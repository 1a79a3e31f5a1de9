use Rattle.std.proofs.Common.{◌+◌, drop, arith}
use Rattle.std.proofs.lemmas.List.{drop_all}
use Rattle.std.proofs.lemmas.Result.{err_from_is_err_and}
use Rattle.h3_header.specs.Parts.{head_of_parts}
use Rattle.h3_header.proofs.PlaceLaws.{drop_at}
use Rattle.h3_header.proofs.ReadLemmas.{Rest-next, Rest-refuses, Rest-done}
use Rattle.h3_header.proofs.headers.read.read_fields.Goals as goal

pub returns-in_err-read_field-clause-err : goal.returns-in_err-read_field-clause-err
returns-in_err-read_field-clause-err c =
    let fields = c.args.fields.now in
    let i = c.fields.place in
    let field = c.get.result in
    let p = err_from_is_err_and c.from_residual.result c.from_residual.ensures.1 in
    rw (p.1, p.2)
    (Rest-refuses c.args.any_protocol (head_of_parts c.args.pseudo.now c.args.map.now) fields (drop i fields) (drop (i + 1) fields) field
    (head_of_parts c.fields.pseudo c.fields.map) _ (drop_at fields i field c.get.ensures) c.in_err-read_field.ensures.err c.fields.invariant)

pub fields-preserved : goal.fields-preserved
fields-preserved c =
    let fields = c.args.fields.now in
    let i = c.fields.place in
    let field = c.get.result in
    let w = c.in_ok-read_field.ensures.ok in
    Rest-next c.args.any_protocol (head_of_parts c.args.pseudo.now c.args.map.now) fields (drop i fields) (drop (i + 1) fields) field
    (head_of_parts c.fields.pseudo c.fields.map) (head_of_parts c.read_field.new.pseudo c.read_field.new.map)
    (drop_at fields i field c.get.ensures) w.0 w.1 c.fields.invariant

pub returns-clause-ok : goal.returns-clause-ok
returns-clause-ok c =
    let fields = c.args.fields.now in
    let i = c.fields.place in
    Rest-done c.args.any_protocol (head_of_parts c.args.pseudo.now c.args.map.now) fields (drop i fields) (head_of_parts c.fields.pseudo c.fields.map) (drop_all i fields (omega arith)) c.fields.invariant
