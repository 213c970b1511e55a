-- Whose a grant is: theirs who have its role and every entry that it names, and nobody else's.
use mathlib.Core.Path.{◌≡◌, refl}
use mathlib.Core.List.{List, [], ◌∷◌, Memᴰ}
use mathlib.Core.Bool.{Bool, ◌&&◌}
use lib.Dec.{T}
use Rattle.lists.specs.Lists.{every, some?, same_list}
use Rattle.lists.proofs.Laws.{and_both, parts, every_member}
use Rattle.syntax.specs.Grammar.{Bytes, Cond, Entry}
use Rattle.model.specs.Conditions.{tests}
use Rattle.model.specs.Queries.{Term, column, time, number, self, Compare, Grant, Caller}
use Rattle.model.specs.Grants.{has_entry, term_known, known, belongs}

pub role_held : (who : Caller) (g : Grant) → T (belongs who g) → T (some? (same_list g.role) who.roles)
unfolding belongs
role_held who g t = search parts

-- wherever in its conditions an entry is named, under `not` or `or` too
pub entry_held : (who : Caller) (g : Grant) (c : Cond Compare) (t : Compare) (n : Bytes) → T (belongs who g) → Memᴰ c g.when → Memᴰ t (tests c) → t.right ≡ self n
    → T (has_entry who.profile n)
unfolding belongs known term_known
entry_held who g c t n b m k e =
    let h = every_member (known who.profile) c g.when m (search parts) in
    let l = every_member (λ u. term_known who.profile u.left && term_known who.profile u.right) t (tests c) k h in
    let r : T (term_known who.profile t.right) = search parts in
    rw e at r

-- ---- and every other's

every_by_member : {A : Type 0} (p : A → Bool) (xs : List A) → ((x : A) → Memᴰ x xs → T (p x)) → T (every p xs)
unfolding every
every_by_member p [] f = tt
every_by_member p (x ∷ xs) f = and_both (p x) (every p xs) (f x (Memᴰ.head refl)) (every_by_member p xs (λ y m. f y (Memᴰ.tail m)))

term_held : (p : List Entry) (t : Term) → ((n : Bytes) → t ≡ self n → T (has_entry p n)) → T (term_known p t)
unfolding term_known
term_held p (column c) f = tt
term_held p time f = tt
term_held p (number z) f = tt
term_held p (self n) f = f n refl

-- One who has its role, and every entry that a term of its conditions names.
pub held : (who : Caller) (g : Grant) → T (some? (same_list g.role) who.roles)
    → ((c : Cond Compare) (t : Compare) (n : Bytes) → Memᴰ c g.when → Memᴰ t (tests c) → (t.left ≡ self n → T (has_entry who.profile n)) × (t.right ≡ self n → T (has_entry who.profile n)))
    → T (belongs who g)
unfolding belongs known
held who g r f =
    and_both (some? (same_list g.role) who.roles) (every (known who.profile) g.when) r
    (every_by_member (known who.profile) g.when
    (λ c m. every_by_member (λ t. term_known who.profile t.left && term_known who.profile t.right) (tests c)
    (λ t k. and_both (term_known who.profile t.left) _ (term_held who.profile t.left (λ n. (f c t n m k).0)) (term_held who.profile t.right (λ n. (f c t n m k).1)))))
