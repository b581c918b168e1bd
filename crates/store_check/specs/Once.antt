-- Facts that have one proof at most. Assumes nothing.
use Rattle.std.specs.Prelude.{ℕ, List, [], ◌∷◌}
use Rattle.std.specs.Coded.{×_prop, Unit-prop}
use Rattle.std.proofs.Props.{props}
use Rattle.model.specs.Order.{All}
use Rattle.store_slots.specs.View.{Used}
use Rattle.store_slots.specs.declared.Record.{Record}
use Rattle.store_check.specs.Written.{Taking}

all_once : {A : Type 0} (P : A → Type 0) → ((x : A) → IsProp (P x)) → (l : List A) → IsProp (All P l)
all_once P f [] = Unit-prop
all_once P f (x ∷ l) = ×_prop (f x) (all_once P f l)

used_once : (r : Record) (l : List ℕ) → IsProp (All (Used r) l)
used_once r l = all_once (Used r) (λ k. Prim.hlevel props) l

pub taking_once : (w : ℕ) (r : Record) (plens paths tlens trees order : List ℕ) → IsProp (Taking w r plens paths tlens trees order)
taking_once w r plens paths tlens trees order = Prim.hlevel (props, used_once)
