use Rattle.std.proofs.Common.{◌∙◌, ◌∷◌, [], ap, List, Some, None, Option}
use Rattle.h3_table.specs.declared.tracking.NamedEntries.{NamedEntries}
use Rattle.h3_table.proofs.Streams.{one_more}
use Rattle.h3_table.proofs.further.begin.Goals as goal

pub returns-clause-ok : goal.returns-clause-ok
returns-clause-ok c =
    let changed = c.in_ok-insert.ensures.updates in
    one_more c.args.section.stream (record { oldest = c.args.section.oldest; newest = c.args.section.newest }) c.args.streams.now.entries c.insert.new.self.entries None c.requires c.insert.ensures.was_ordered
    (record { ordered = c.insert.ensures.ordered; own = changed.1 ∙ ap {A = List NamedEntries} {B = Option (List NamedEntries)} Some c.new-entries.ensures ∙ ap (λ n. Some (n ∷ [])) c.named.ensures; others = changed.2 })
