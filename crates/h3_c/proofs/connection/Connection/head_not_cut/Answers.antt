-- A list that was not cut.
use Rattle.std.proofs.Common.{List, subst}
use Rattle.std.specs.Prelude.{◌≢◌, Err}
use Rattle.h3_field.specs.Field.{Field}
use Rattle.h3_session.specs.SendingLists.{SendsFieldList, place_refusal}
use Rattle.h3_c.specs.Seen.{Seen}
use Rattle.h3_c.proofs.Uncut.{not_taken}
use Rattle.h3_c.proofs.connection.Connection.head_not_cut.Goals as goal

pub returns-in-Some : goal.returns-in-Some
returns-in-Some c =
    let differs : c.args.told.number ≢ 32 = search in
    not_taken c.args.self.now (λ e. place_refusal e c.args.stream) (λ fields call. SendsFieldList c.args.self.now.endpoint c.args.self.now.endpoint c.args.stream fields call) c.args.told c.refused.result c.in-Some.refusal
    differs c.in-Some.ensures.0 (subst (λ (v : Seen). (fields : List Field) → SendsFieldList v.endpoint v.endpoint c.args.stream fields (Err c.in-Some.refusal)) c.self.view_is c.in-Some.ensures.1) c.refused.ensures
