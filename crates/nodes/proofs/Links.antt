-- The first condition of a list, found by walking back from its last along the links.
use mathlib.Core.Path.{◌≡◌, refl, sym, ap, ◌∙◌}
use mathlib.Core.List.{List, [], ◌∷◌}
use Prim.Native.Nat.{ℕ, ◌≤◌, ◌<◌}
use native.Mathlib.Omega.{arith}
use Rattle.nodes.specs.Nodes.{link}
use Rattle.nodes.proofs.Reaching.{link_falls, cond_of, list_before, list_on, list_off}

-- a condition ends at e of the list that ends at place j and goes down to a stop
pub record Walk (ws : List ℕ) (stop j e : ℕ) : Type 0 where
  pub low : e ≤ j
  pub split : (s : ℕ) → s ≤ e → list_before ws s j [] ≡ list_before ws s e (list_before ws e j [])
  pub some : stop < j → stop < e
  pub none : j ≤ stop → e ≡ j

-- the first of them does
pub record First (ws : List ℕ) (stop j e : ℕ) : Type 0 where
  pub low : e ≤ j
  pub some : stop < j → stop < e
  pub items : stop < j → list_before ws stop j [] ≡ cond_of ws e ∷ list_before ws e j []
  pub alone : stop < j → list_before ws stop e [] ≡ cond_of ws e ∷ []
  pub none : j ≤ stop → e ≡ j

module _ (ws : List ℕ) (stop j : ℕ) where
  pub walk_start : Walk ws stop j j
  walk_start = record { low = omega arith; split = λ s h. ap (list_before ws s j) (sym (list_off ws j j [] (omega arith))); some = λ h. h; none = λ h. refl }

  module _ {e b : ℕ} (c : Walk ws stop j e) (l : b ≡ link ws e) where
    pub walk_falls : stop < b → b < e
    walk_falls h = let f = link_falls ws e in omega arith

    pub walk_on : stop < b → Walk ws stop j b
    walk_on h = record { low = omega (arith, walk_falls h, c.low); split = split; some = λ k. h; none = λ k. absurd (omega (arith, walk_falls h, c.low)) }
      where
        shown : list_before ws b j [] ≡ cond_of ws e ∷ list_before ws e j []
        shown =
            c.split b (omega (arith, walk_falls h)) ∙ list_on ws b e (list_before ws e j []) (walk_falls h) ∙ ap (λ (i : ℕ). list_before ws b i (cond_of ws e ∷ list_before ws e j [])) (sym l)
            ∙ list_off ws b b (cond_of ws e ∷ list_before ws e j []) (omega arith)

        split : (s : ℕ) → s ≤ b → list_before ws s j [] ≡ list_before ws s b (list_before ws b j [])
        split s k =
            c.split s (omega (arith, walk_falls h)) ∙ list_on ws s e (list_before ws e j []) (omega (arith, walk_falls h)) ∙ ap (λ (i : ℕ). list_before ws s i (cond_of ws e ∷ list_before ws e j [])) (sym l)
            ∙ ap (list_before ws s b) (sym shown)

    pub walk_end : b ≤ stop → First ws stop j e
    walk_end h =
        record {
          low = c.low;
          some = c.some;
          items = λ k. let i = c.some k in c.split stop (omega arith) ∙ list_on ws stop e (list_before ws e j []) i ∙ list_off ws stop (link ws e) (cond_of ws e ∷ list_before ws e j []) (omega arith);
          alone = λ k. let i = c.some k in list_on ws stop e [] i ∙ list_off ws stop (link ws e) (cond_of ws e ∷ []) (omega arith);
          none = c.none;
        }

pub ruleset Walk_Ends = (walk_start, walk_falls, walk_on, walk_end)
