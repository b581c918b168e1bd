-- With nothing taken every tree is cached, because the hidden slots are the free ones then. Assumes nothing.
use mathlib.Core.Path.{◌≡◌, ap}
use mathlib.Core.List.{List}
use Prim.Native.Nat.{ℕ}
use Rattle.store_runs.specs.Digits.{digits}
use Rattle.store_runs.specs.Runs.{cut}
use Rattle.store_slots.specs.View.{slots_of, gather, view_of, cached_of}
use Rattle.store_slots.specs.declared.Record.{Record}

pub cached_view : (w : ℕ) (r : Record) (plens paths tlens trees : List ℕ) → r.hidden ≡ r.free → cached_of w r plens paths tlens trees ≡ view_of w r plens paths tlens trees
cached_view w r plens paths tlens trees e = ap (λ (x : ℕ). gather (slots_of w (digits 64 x) (cut plens paths) (cut tlens trees))) e
