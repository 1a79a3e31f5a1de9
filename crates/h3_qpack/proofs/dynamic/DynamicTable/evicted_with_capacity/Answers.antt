use Rattle.h3_qpack.proofs.dynamic.DynamicTable.evicted_with_capacity.Goals as goal

pub returns-then-size-gt-MAX_CAPACITY-clause-ok : goal.returns-then-size-gt-MAX_CAPACITY-clause-ok
returns-then-size-gt-MAX_CAPACITY-clause-ok c = search
