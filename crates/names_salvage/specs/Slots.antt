-- How a search of the table reads its slots: an order for any number, which for the slot of an entry is that of its name in Git's order. Assumes nothing.
use Rattle.std.specs.Prelude.{ℕ, suc, ◌/◌, ◌%◌, [], ◌∷◌, Bool, cond, eqb, drop, get_or}
use Rattle.std.specs.Ordering.{nat_cmp}
use Rattle.std.specs.declared.cmp.Ordering.{Ordering}
use Rattle.model.specs.Bytes.{Bytes}

-- how many bytes two names begin with alike
unfoldable pub shared_of : Bytes → Bytes → ℕ
shared_of [] m = 0
shared_of (x ∷ n) [] = 0
shared_of (x ∷ n) (y ∷ m) = cond (eqb x y) (suc (shared_of n m)) 0

-- the byte at i where the order is taken: behind a tree's name a slash, behind another nothing; a name may end in a NUL
abbrev pub order_byte : Bytes → Bool → ℕ → ℕ
order_byte n tree i = cond (eqb (get_or n i 0) 0) (cond tree 47 0) (get_or n i 0)

-- a slot's number v has the place of its entry's name and the length of its mode's text, which is 5 for a tree alone
abbrev pub order_after : Bytes → Bool → Bytes → Bool → ℕ → Ordering
order_after there b n tree i = nat_cmp (order_byte there b i) (order_byte n tree i)

unfoldable pub slot_order : Bytes → Bytes → Bool → ℕ → Ordering
slot_order raw n tree v = order_after (drop (v / 8) raw) (eqb (v % 8) 5) n tree (shared_of n (drop (v / 8) raw))
