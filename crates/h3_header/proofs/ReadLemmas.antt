-- How a list is read field by field.
use Rattle.std.proofs.Common.{◌≡◌, Bool, List, [], ◌∷◌, fold, sym, subst, inl, inr}
use Rattle.h3_field.specs.Field.{Field}
use Rattle.h3_header.specs.Head.{Head}
use Rattle.h3_header.specs.Reads.{Accepts, Refuses, AcceptsAll, RefusesOne, with_field}
use Rattle.h3_header.specs.declared.headers.error.HeaderError.{HeaderError}

-- what the rest of a list, read into h, says of the whole list, read into start
pub record Rest (any : Bool) (start : Head) (all rest : List Field) (h : Head) : Type 0 where
  pub accepts : AcceptsAll any h rest → AcceptsAll any start all
  pub refuses : (e : HeaderError) → RefusesOne any h rest e → RefusesOne any start all e
  pub reads : fold with_field h rest ≡ fold with_field start all

Rest-more : (any : Bool) (start : Head) (all rest : List Field) (f : Field) (h : Head) → Accepts any h f → Rest any start all (f ∷ rest) h → Rest any start all rest (with_field h f)
unfolding AcceptsAll RefusesOne
Rest-more any start all rest f h ok r =
    record { accepts = λ a. r.accepts (ok, a); refuses = λ e a. r.refuses e (inr (ok, a)); reads = r.reads }

Rest-refused : (any : Bool) (start : Head) (all rest : List Field) (f : Field) (h : Head) (e : HeaderError) → Refuses any h f e → Rest any start all (f ∷ rest) h → RefusesOne any start all e
unfolding RefusesOne
Rest-refused any start all rest f h e why r = r.refuses e (inl why)

Rest-end : (any : Bool) (start : Head) (all : List Field) (h : Head) → Rest any start all [] h → AcceptsAll any start all × (h ≡ fold with_field start all)
unfolding AcceptsAll
Rest-end any start all h r = (r.accepts tt, r.reads)

pub Rest-done : (any : Bool) (start : Head) (all : List Field) (rest : List Field) (h : Head) → rest ≡ [] → Rest any start all rest h → AcceptsAll any start all × (h ≡ fold with_field start all)
Rest-done any start all rest h none r = Rest-end any start all h (subst (λ xs. Rest any start all xs h) none r)

pub Rest-next : (any : Bool) (start : Head) (all before rest : List Field) (f : Field) (h h' : Head) → before ≡ f ∷ rest → Accepts any h f → h' ≡ with_field h f → Rest any start all before h → Rest any start all rest h'
Rest-next any start all before rest f h h' step is new r = subst (Rest any start all rest) (sym new) (Rest-more any start all rest f h is (subst (λ xs. Rest any start all xs h) step r))

pub Rest-refuses : (any : Bool) (start : Head) (all before rest : List Field) (f : Field) (h : Head) (e : HeaderError) → before ≡ f ∷ rest → Refuses any h f e → Rest any start all before h → RefusesOne any start all e
Rest-refuses any start all before rest f h e step why r = Rest-refused any start all rest f h e why (subst (λ xs. Rest any start all xs h) step r)
