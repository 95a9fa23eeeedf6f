-- Pages are allocated one after another.
use Rattle.std.proofs.Common.{◌≡◌, ℕ, ◌+◌, ◌-◌, ◌*◌, ◌/◌, ◌<◌, ◌≤◌, ◌⊎◌, refl, ◌∙◌, subst, arith, inl, inr}
use Rattle.std.proofs.lemmas.Bool.{cases_eq, cases_lt}
use Rattle.machine_defs.specs.Memory.{page_size}
use Rattle.vm_mem.specs.Pages.{AreAllocated, IsAllocated, ReachesPage, Pages}

-- no pages are allocated but those from `first` to before `next`
abbrev pub OnlyBetween : Pages → Pages → ℕ → ℕ → Type 0
OnlyBetween old new first next = (page : ℕ) → IsAllocated new.allocated page → IsAllocated old.allocated page ⊎ ((first ≤ page) × (page < next))

-- those are allocated, and what was allocated still is
pub record Making (old new : Pages) (first next : ℕ) : Type 0 where
  pub bytes : new.bytes ≡ old.bytes
  pub pages_kept : (page : ℕ) → IsAllocated old.allocated page → IsAllocated new.allocated page
  pub allocated : (page : ℕ) → first ≤ page → page < next → IsAllocated new.allocated page
  pub pages_added : OnlyBetween old new first next

pub making-none : (old : Pages) (first : ℕ) → Making old old first first
making-none old first = record { bytes = refl; pages_kept = λ page allocated. allocated; allocated = λ page low high. absurd (omega (arith, low, high)); pages_added = λ page allocated. inl allocated }

pub only-more : (old now new : Pages) (first next : ℕ) → OnlyBetween old now first next → first ≤ next
    → ((page : ℕ) → IsAllocated new.allocated page → IsAllocated now.allocated page ⊎ (page ≡ next)) → OnlyBetween old new first (next + 1)
only-more old now new first next earlier from pages_added page allocated = elim (pages_added page allocated) [
  | inl was ↦ elim (earlier page was) [
    | inl was' ↦ inl was'
    | inr between ↦ inr (between.0, omega (arith, between.1))
  ]
  | inr same ↦ inr (omega (arith, from, same), omega (arith, same))
]

pub making-more : (old now new : Pages) (first next : ℕ) → Making old now first next → new.bytes ≡ now.bytes
    → ((page : ℕ) → IsAllocated now.allocated page → IsAllocated new.allocated page) → IsAllocated new.allocated next → OnlyBetween old new first (next + 1)
    → Making old new first (next + 1)
making-more old now new first next m bytes pages_kept allocated pages_added = record {
  bytes = bytes ∙ m.bytes;
  pages_kept = λ page was. pages_kept page (m.pages_kept page was);
  allocated = λ page low high. elim (cases_eq page next) [
    | inl same ↦ rw same allocated
    | inr apart ↦ pages_kept page (m.allocated page low (grind (arith, high, apart)))
  ];
  pages_added = pages_added;
}

pub making-all : (old new : Pages) (at count next : ℕ) → Making old new (at / page_size) next → (at + count - 1) / page_size < next
    → AreAllocated new.allocated at count
making-all old new at count next m h i below =
    m.allocated ((at + i) / page_size) (omega (arith, below)) (omega (arith, below, h))

pub page-of : (at count page : ℕ) → at / page_size ≤ page → page ≤ (at + count - 1) / page_size → 0 < count
    → ReachesPage page at count
page-of at count page low high some = elim (cases_lt (page_size * page) at) [
  | inl before ↦ (0, some, omega (arith, low, high, before))
  | inr from ↦ (page_size * page - at, omega (arith, low, high, from, some), omega (arith, low, high, from, some))
]

pub only-under : (old new : Pages) (at count next : ℕ) → OnlyBetween old new (at / page_size) next → next ≤ (at + count - 1) / page_size + 1
    → 0 < count → (page : ℕ) → IsAllocated new.allocated page → IsAllocated old.allocated page ⊎ ReachesPage page at count
only-under old new at count next pages_added last some page allocated = elim (pages_added page allocated) [
  | inl was ↦ inl was
  | inr between ↦ inr (page-of at count page between.0 (omega (arith, between.1, last)) some)
]

pub made-of : (old : Pages) (at count page : ℕ) → at / page_size ≤ page → page ≤ (at + count - 1) / page_size → 0 < count
    → AreAllocated old.allocated at count → IsAllocated old.allocated page
made-of old at count page low high some all =
    let it = page-of at count page low high some in
    subst (λ p. IsAllocated old.allocated p) it.2 (all it.0 it.1)
