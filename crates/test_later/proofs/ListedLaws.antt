-- Laws of the entries that a list of keys stands for: the key at a place is that of the first of those from there on. Assumes nothing.
use Rattle.std.proofs.Common.{◌≡◌, refl, ap, ◌∙◌, ◌<◌, ◌+◌, ℕ, Bool, true, false, List, ◌∷◌, length, sym}
use Rattle.std.proofs.Math.Option.{some}
use Rattle.std.specs.Prelude.{cond, drop, map, get_or}
use Rattle.std.proofs.lemmas.List.{drop_more}
use Rattle.model.specs.Raw.{more}
use Rattle.model.specs.Tree.{is_tree, TREE, BLOB}
use Rattle.names.specs.declared.order.Key.{Key}
use Rattle.test_later.specs.Listed.{entry_of_key, listed}

pub mode_tells : (t : Bool) → t ≡ is_tree (cond t TREE BLOB)
unfolding is_tree
mode_tells true = refl
mode_tells false = refl

pub listed_begins : (ks : List Key) (at : ℕ) (k : Key) → at < length ks → k ≡ get_or ks at k → listed ks at ≡ more (entry_of_key k) (listed ks (at + 1))
listed_begins ks at k h e =
    ap (λ (l : List Key). some (map entry_of_key l)) (drop_more ks at k h ∙ ap (λ (x : Key). x ∷ drop (at + 1) ks) (sym e))
