-- Laws of reading entries: what is read is the first of those that are left. Assumes nothing.
use Prim.Native.Nat.{ℕ, ◌≤◌}
use mathlib.Core.Path.{◌≡◌, refl, sym, ap, ◌∙◌}
use mathlib.Core.List.{[]}
use mathlib.Core.Option.{Option, some}
use mathlib.Core.Bool.{Bool, false}
use native.Mathlib.Omega.{arith}
use lib.Dec.{ltb}
use borrow.Author.Tests.{le-ltb}
use Rattle.model.specs.Bytes.{Bytes, cmp}
use Rattle.model.specs.Tree.{Tree, as_kind, key as key_of}
use Rattle.names.specs.Check.{tree_among, TwinIs}
use Rattle.names.specs.Later.{Reads}
use Rattle.names.specs.declared.order.Key.{Key}
use Rattle.names.proofs.FitLaws.{Begins, Twinning}

module _ {held : ℕ → Option Tree} {end at : ℕ} {key : Key} {next : ℕ} (r : Reads held end at key next) where
  pub reads_begins : Begins (held at) r.entry (held next)
  reads_begins = record { is = r.begins }

  pub reads_key : (l : Bytes) → cmp (as_kind key.tree key.name.now) l ≡ cmp (key_of r.entry) l
  reads_key l = rw (r.name, r.tree)

-- where no entry is read, what is said of damage can be said of the twin: none is left, or they are no entries to their end
pub reads_none : {later here : Option Tree} {name : Bytes} {damaged : Bool} → Twinning later name here → ((t : Tree) → here ≡ some t → (t ≡ []) × (damaged ≡ false)) →
    TwinIs name later damaged
unfolding tree_among
reads_none {name = name} s none = record {
  is = λ es p.
      let x = s.rest es p in
      let y = none x.0 x.1 in
      y.1 ∙ sym (x.2 ∙ ap (tree_among name) y.0);
}

-- where none is left, the twin is not there
pub reads_over : {later here : Option Tree} {name : Bytes} → Twinning later name here → ((t : Tree) → here ≡ some t → t ≡ []) → TwinIs name later false
reads_over s over = reads_none s (λ t h. (over t h, refl))

-- where no entry is read the bytes end and the twin is not there, or they hold no entries to their end
pub reads_bounded : {later here : Option Tree} {name : Bytes} {end at n : ℕ} → Twinning later name here → ((t : Tree) → here ≡ some t → (t ≡ []) × (end ≤ at)) → n ≡ end → TwinIs name later (ltb at n)
reads_bounded {at = at} s over e =
    reads_none s (λ t h.
    let y = over t h in
    (y.0, le-ltb at _ (omega (arith, y.1, e))))
