-- Which name is looked up, and that no other is it.
use Rattle.std.proofs.Common.{◌≡◌, ◌≢◌, ℕ, ◌<◌, Bool, true, false, not, ◌&&◌, ◌||◌, cond, List, [], ◌∷◌, length, get_or, slice_index, bytes_eq, eqb, Option, Some, None, ap, sym, refl, ◌∙◌, subst, arith}
use Rattle.std.specs.List.{list_all}
use Rattle.std.proofs.lemmas.Bool.{eqb-true, false≢true}
use Rattle.std.proofs.lemmas.Bool.Decides.{nat_tests}
use Rattle.std.proofs.lemmas.List.Folds.{list_all_at}
use Rattle.std.proofs.lemmas.Slice.Eq.{bytes_eq-Decides}
use Rattle.h3_messages.specs.Known.{text, place, candidate, if_named, known_of}
use Rattle.h3_messages.specs.declared.known.Known.{Known}
use Rattle.h3_messages.specs.declared.known.Known.TheVariants.{Method, Scheme, Authority, Path, Protocol, Status, Host, ContentLength, Te, Connection, KeepAlive, ProxyConnection, TransferEncoding, Upgrade}

abbrev at_place : ℕ → Known
at_place n = get_or (Method ∷ Scheme ∷ Authority ∷ Path ∷ Protocol ∷ Status ∷ Host ∷ ContentLength ∷ Te ∷ Connection ∷ KeepAlive ∷ ProxyConnection ∷ TransferEncoding ∷ Upgrade ∷ []) n Method

at_its_place : (k : Known) → at_place (place k) ≡ k
at_its_place Method = refl
at_its_place Scheme = refl
at_its_place Authority = refl
at_its_place Path = refl
at_its_place Protocol = refl
at_its_place Status = refl
at_its_place Host = refl
at_its_place ContentLength = refl
at_its_place Te = refl
at_its_place Connection = refl
at_its_place KeepAlive = refl
at_its_place ProxyConnection = refl
at_its_place TransferEncoding = refl
at_its_place Upgrade = refl

same_place : (j k : Known) → place j ≡ place k → j ≡ k
same_place j k e = sym (at_its_place j) ∙ (ap at_place e ∙ at_its_place k)

-- each name is found
known_of_text : (k : Known) → known_of (text k) ≡ Some k
unfolding candidate
known_of_text Method = refl
known_of_text Scheme = refl
known_of_text Authority = refl
known_of_text Path = refl
known_of_text Protocol = refl
known_of_text Status = refl
known_of_text Host = refl
known_of_text ContentLength = refl
known_of_text Te = refl
known_of_text Connection = refl
known_of_text KeepAlive = refl
known_of_text ProxyConnection = refl
known_of_text TransferEncoding = refl
known_of_text Upgrade = refl

own_place : (k : Known) → eqb (place k) (place k) ≡ true
own_place Method = refl
own_place Scheme = refl
own_place Authority = refl
own_place Path = refl
own_place Protocol = refl
own_place Status = refl
own_place Host = refl
own_place ContentLength = refl
own_place Te = refl
own_place Connection = refl
own_place KeepAlive = refl
own_place ProxyConnection = refl
own_place TransferEncoding = refl
own_place Upgrade = refl

-- whether what was found has this place
abbrev pub is_at : ℕ → Option Known → Bool
is_at n None = false
is_at n (Some k) = eqb n (place k)

named_by : (name : List ℕ) (j k : Known) (b : Bool) → bytes_eq name (text j) ≡ b → if_named name (Some j) ≡ Some k → bytes_eq name (text k) ≡ true
named_by name j k true h e = let same : j ≡ k = cc in rw (← same) h
named_by name j k false h e = absurd cc

-- what is found is the name
found_is : (name : List ℕ) (o : Option Known) (k : Known) → if_named name o ≡ Some k → bytes_eq name (text k) ≡ true
found_is name None k e = absurd cc
found_is name (Some j) k e = named_by name j k (bytes_eq name (text j)) refl e

other_place : (name : List ℕ) (j k : Known) (b : Bool) → eqb (place k) (place j) ≡ b → bytes_eq name (text j) ≡ true → bytes_eq name (text k) ≡ false → b ≡ false
other_place name j k false e is not_it = refl
other_place name j k true e is not_it =
    let same : k ≡ j = same_place k j (eqb-true (place k) (place j) e) in
    absurd (false≢true (sym not_it ∙ (ap (λ m. bytes_eq name (text m)) same ∙ is)))

not_at : (name : List ℕ) (k : Known) (o : Option Known) → known_of name ≡ o → bytes_eq name (text k) ≡ false → is_at (place k) o ≡ false
not_at name k None e h = refl
not_at name k (Some j) e h = other_place name j k (eqb (place k) (place j)) refl (found_is name _ j e) h

is_named_by : (name : List ℕ) (k : Known) (b : Bool) → bytes_eq name (text k) ≡ b → b ≡ is_at (place k) (known_of name)
is_named_by name k true h =
    let same : name ≡ text k = (bytes_eq-Decides name (text k)).0 h in
    sym (ap (λ n. is_at (place k) (known_of n)) same ∙ (ap (is_at (place k)) (known_of_text k) ∙ own_place k))
is_named_by name k false h = sym (not_at name k (known_of name) refl h)

-- a field has a name where that is what is found
pub is_named : (name : List ℕ) (k : Known) → bytes_eq name (text k) ≡ is_at (place k) (known_of name)
is_named name k = is_named_by name k (bytes_eq name (text k)) refl

-- where none is found, the name is none of them
pub none_named : (name : List ℕ) → known_of name ≡ None → (k : Known) → bytes_eq name (text k) ≡ false
none_named name e k = is_named name k ∙ ap (is_at (place k)) e

either : (P : List ℕ → Type 0) → ((k : Known) → P (text k)) → (name : List ℕ) → ((known_of name ≡ None) → P name) → (o : Option Known) → known_of name ≡ o → P name
either P some name none None e = none e
either P some name none (Some k) e =
    let same : name ≡ text k = (bytes_eq-Decides name (text k)).0 (found_is name _ k e) in
    subst P (sym same) (some k)

-- what holds of each of them, and of any name where none is found
pub by_name : (P : List ℕ → Type 0) → ((k : Known) → P (text k)) → (name : List ℕ) → ((known_of name ≡ None) → P name) → P name
by_name P some name none = either P some name none (known_of name) refl

within : (k : Known) → place k < 14
within Method = omega arith
within Scheme = omega arith
within Authority = omega arith
within Path = omega arith
within Protocol = omega arith
within Status = omega arith
within Host = omega arith
within ContentLength = omega arith
within Te = omega arith
within Connection = omega arith
within KeepAlive = omega arith
within ProxyConnection = omega arith
within TransferEncoding = omega arith
within Upgrade = omega arith

-- Which of them a name is that has a property of this length, first and third byte. No search over names is left: the fourteen compute
abbrev all : List Known
all = Method ∷ Scheme ∷ Authority ∷ Path ∷ Protocol ∷ Status ∷ Host ∷ ContentLength ∷ Te ∷ Connection ∷ KeepAlive ∷ ProxyConnection ∷ TransferEncoding ∷ Upgrade ∷ []

pass_by : (p : Known → Bool) (k : Known) (b : Bool) → p k ≡ b → list_all p all ≡ true → b ≡ true
pass_by p k true e every = refl
pass_by p k false e every =
    absurd (false≢true (sym (list_all_at p all (place k) Method (within k) (ap p (at_its_place k) ∙ e)) ∙ every))

-- what all of them pass, each does
each : (p : Known → Bool) (k : Known) → list_all p all ≡ true → p k ≡ true
each p k every = pass_by p k (p k) refl every

abbrev of_name : (ℕ → ℕ → ℕ → Bool) → List ℕ → Bool
of_name p name = p (length name) (slice_index name 0) (slice_index name 2)

implied : (a b : Bool) → (not a || b) ≡ true → a ≡ true → b ≡ true
implied true b h e = h
implied false b h e = absurd (false≢true e)

no_name : (name : List ℕ) → ((k : Known) → bytes_eq name (text k) ≡ false) → (o : Option Known) → known_of name ≡ o → None ≡ o
no_name name none None e = refl
no_name name none (Some k) e = absurd (false≢true (sym (none k) ∙ found_is name _ k e))

unlike : (name : List ℕ) (k : Known) (b : Bool) → bytes_eq name (text k) ≡ b → ((name ≡ text k) → b ≡ false) → b ≡ false
unlike name k true e other = other ((bytes_eq-Decides name (text k)).0 e)
unlike name k false e other = refl

lone_by : (p : ℕ → ℕ → ℕ → Bool) (name : List ℕ) (k : Known) (b : Bool) → bytes_eq name (text k) ≡ b → of_name p name ≡ true → list_all (λ j. not (of_name p (text j)) || eqb (place j) (place k)) all ≡ true → cond b (Some k) None ≡ known_of name
lone_by p name k true e is every =
    let same : name ≡ text k = (bytes_eq-Decides name (text k)).0 e in
    sym (ap known_of same ∙ known_of_text k)
lone_by p name k false e is every =
    no_name name
    (λ j. unlike name j (bytes_eq name (text j)) refl (λ same.
    let its : eqb (place j) (place k) ≡ true = implied (of_name p (text j)) (eqb (place j) (place k)) (each (λ i. not (of_name p (text i)) || eqb (place i) (place k)) j every) (ap (of_name p) (sym same) ∙ is) in
    let one : j ≡ k = same_place j k (eqb-true (place j) (place k) its) in
    ap (λ i. bytes_eq name (text i)) one ∙ e))
    (known_of name)
    refl

lone_known : (p : ℕ → ℕ → ℕ → Bool) (name : List ℕ) (k : Known) → of_name p name ≡ true → list_all (λ j. not (of_name p (text j)) || eqb (place j) (place k)) all ≡ true → cond (bytes_eq name (text k)) (Some k) None ≡ known_of name
lone_known p name k is every = lone_by p name k (bytes_eq name (text k)) refl is every

own_number : (n : ℕ) → eqb n n ≡ true
own_number n = grind (arith, nat_tests)

same_number : (n m : ℕ) → n ≡ m → eqb n m ≡ true
same_number n m e = ap (λ i. eqb i m) e ∙ own_number m

other_number : (n m : ℕ) → (n ≢ m) → eqb n m ≡ false
other_number n m h = grind (arith, nat_tests)

both : (a b : Bool) → a ≡ true → b ≡ true → (a && b) ≡ true
both true b e h = h
both false b e h = e

-- the only one of its length, with its first byte, with its third byte, or with no colon ahead
pub lone_by_length : (name : List ℕ) (size : ℕ) (k : Known) → length name ≡ size → list_all (λ j. not (eqb (length (text j)) size) || eqb (place j) (place k)) all ≡ true → cond (bytes_eq name (text k)) (Some k) None ≡ known_of name
lone_by_length name size k is every = lone_known (λ n first third. eqb n size) name k (same_number (length name) size is) every

pub lone_by_third : (name : List ℕ) (size byte : ℕ) (k : Known) → length name ≡ size → slice_index name 2 ≡ byte → list_all (λ j. not (eqb (length (text j)) size && eqb (slice_index (text j) 2) byte) || eqb (place j) (place k)) all ≡ true → cond (bytes_eq name (text k)) (Some k) None ≡ known_of name
lone_by_third name size byte k is third every =
    lone_known (λ n f t. eqb n size && eqb t byte) name k (both _ _ (same_number (length name) size is) (same_number (slice_index name 2) byte third)) every

pub lone_without_colon : (name : List ℕ) (size : ℕ) (k : Known) → length name ≡ size → (slice_index name 0 ≢ 58) → list_all (λ j. not (eqb (length (text j)) size && not (eqb (slice_index (text j) 0) 58)) || eqb (place j) (place k)) all ≡ true → cond (bytes_eq name (text k)) (Some k) None ≡ known_of name
lone_without_colon name size k is plain every =
    lone_known (λ n f t. eqb n size && not (eqb f 58)) name k (both _ _ (same_number (length name) size is) (ap not (other_number (slice_index name 0) 58 plain))) every
