-- A load of an item, exit by exit.
use Rattle.std.proofs.Common.{◌≡◌, ℕ, ◌+◌, ◌-◌, ◌/◌, ◌%◌, ◌==◌, ◌||◌, nat_lt, Bool, true, false, List, ◌++◌, length, take, drop, replicate, Result, Ok, Err, ◌≤◌, ◌<◌, ◌⊎◌, inl, inr, refl, sym, ◌∙◌, ap, subst, arith, Option, Some}
use Rattle.std.specs.Prelude.{not, IfSome, OnOk, ◌≢◌}
use Rattle.outside.specs.Causes.{CountsFault}
use Rattle.outside.specs.declared.disk.Damage.{Damage}
use Rattle.outside.specs.declared.disk.ReadStop.{ReadStop}
use Rattle.outside.specs.declared.disk.ReadStop.TheVariants as read_stop
use Rattle.std.proofs.lemmas.Bool.Decides.{nat_tests}
use Rattle.std.proofs.lemmas.List.{length-append, length-drop, length-replicate, length-take}
use Rattle.machine_defs.specs.declared.memory.MemFault.TheVariants.{Range}
use Rattle.machine_defs.specs.Program.{loading_cycles}
use Rattle.machine_defs.specs.World.{Call, Item, Items, Unknown}
use Rattle.vm_sys.proofs.Ranges.{in-memory, in-memory_from, out-from, refused-first, refused-rest, store-out, stored-both, stored-parts}
use Rattle.machine_defs.specs.declared.memory.MemFault.{MemFault}
use Rattle.machine_defs.specs.Memory.{Memory, bytes_of, is_out_of_range, page_size, set_code}
use Rattle.machine_defs.specs.Memory as memory
use Rattle.machine_defs.specs.Step.{Machine, charged, fault_number, is_spent, with_register}
use Rattle.vm_mem.specs.Paged.{Stores}
use Rattle.vm_mem.specs.declared.stop.MemStop.{MemStop}
use Rattle.vm_mem.specs.declared.stop.MemStop.TheVariants as mem_stop
use Rattle.machine_defs.specs.Answer.{argument, paid_for, stored, with_part, with_length, loads_part, code_bytes, with_content, loads_code}
use Rattle.vm_sys.specs.declared.syscall.Sys.{Sys}
use Rattle.vm_sys.specs.declared.syscall.Sys.TheVariants.{Done, Exit, Fault, Spent, Stop}
use Rattle.vm_mem.specs.Pages.{ReachesPage}
use Rattle.vm_sys.specs.Finding.{Finds}
use Rattle.vm_sys.specs.Running.{outcome_of}
use Rattle.vm_sys.specs.Answering.{AddsPages, ContentTouches, HasBytes, HoldsPart, IsAnswer, WhereCutOff, IsCodePlaced, IsStopped}

-- ---- what the world answered

abbrev unread : (T : Type 0) → ReadStop → Result T ReadStop
unread T stop = Err stop

pub same-stop : {T : Type 0} (stop other : ReadStop) → Stop stop ≡ Stop other → unread T stop ≡ unread T other
same-stop {T} stop other is = let same : stop ≡ other = cc in ap (unread T) same

pub same-answer : {T : Type 0} (stop other : ReadStop) → unread T stop ≡ unread T other → Stop stop ≡ Stop other
same-answer stop other is = let same : stop ≡ other = cc in ap Stop same

-- the program does not go on only where a syscall was stopped
pub outcome-stop : (answer : Sys) (stop : ReadStop) → outcome_of answer ≡ Err stop → answer ≡ Stop stop
outcome-stop Done stop is = absurd cc
outcome-stop (Exit code) stop is = absurd cc
outcome-stop (Fault number) stop is = absurd cc
outcome-stop Spent stop is = absurd cc
outcome-stop (Stop other) stop is = let same : other ≡ stop = cc in ap Stop same

pub no-stop : (number : ℕ) (stop : ReadStop) → Fault number ≡ Stop stop → ⊥
no-stop number stop is = absurd cc

-- that there is no such item is known without memory
pub known-before : (T : Type 0) (told : Option Items) (items : Items) (call asked : Call) (stop : ReadStop)
    → IfSome told (λ its. its call ≡ Unknown → unread T stop ≡ unread T read_stop.NoMemory → ⊥) → told ≡ Some items → call ≡ asked
    → Stop stop ≡ Stop read_stop.NoMemory → items asked ≢ Unknown
known-before T told items call asked stop known tells same wants = λ unknown.
    subst (λ (o : Option Items). IfSome o (λ its. its call ≡ Unknown → unread T stop ≡ unread T read_stop.NoMemory → ⊥)) tells known (ap items same ∙ unknown)
    (same-stop stop read_stop.NoMemory wants)

pub item-found : (told : Option Items) (items : Items) (call asked : Call) (item : Item) → IfSome told (λ its. its call ≡ item) → told ≡ Some items → call ≡ asked
    → items asked ≡ item
item-found told items call asked item found tells same =
    ap items (sym same) ∙ subst (λ (o : Option Items). IfSome o (λ its. its call ≡ item)) tells found

-- ---- what the world found

-- nothing, where it was not asked
pub finds-none : (found : ℕ × Option Damage) {Answered : Damage → Type 0} → ((damage : Damage) → Answered damage → ⊥) → Finds found found Answered
finds-none found never = record { named = λ damage is. absurd (never damage is); none = λ other. refl }

-- for an answer that is given just where another is
pub finds-as : {before after : ℕ × Option Damage} {Answered Other : Damage → Type 0} → ((damage : Damage) → Answered damage → Other damage)
    → ((damage : Damage) → Other damage → Answered damage) → Finds before after Answered → Finds before after Other
finds-as to from finds = record {
  named = λ damage is. finds.named damage (from damage is);
  none = λ none. finds.none (λ damage is. none damage (to damage is));
}

-- after a call that found none
pub finds-after : {first then last : ℕ × Option Damage} {Answered : Damage → Type 0} → then ≡ first → Finds then last Answered → Finds first last Answered
finds-after {last = last} {Answered = Answered} same finds = subst (λ (found : ℕ × Option Damage). Finds found last Answered) same finds

-- ---- faults

pub counts-none : (faults : ℕ) (Failed : Type 0) → (Failed → ⊥) → CountsFault faults faults Failed
counts-none faults Failed never = record { later = omega arith; rose = λ fault. absurd (never fault); unchanged = λ none. refl }

pub counts-as : {before now : ℕ} {Failed Other : Type 0} → (Failed → Other) → (Other → Failed) → CountsFault before now Failed → CountsFault before now Other
counts-as to from counts = record {
  later = counts.later;
  rose = λ other. counts.rose (from other);
  unchanged = λ none. counts.unchanged (λ fault. none (to fault));
}

-- ---- what a store left

pub stores-ok : (expected : Result Memory MemFault) (old new : Memory) → Stores expected old new (Ok tt) → expected ≡ Ok new
stores-ok (Ok stored) old new stores = cc
stores-ok (Err fault) old new stores = absurd stores

pub stores-fault : (expected : Result Memory MemFault) (old new : Memory) (fault : MemFault) → Stores expected old new (Err (mem_stop.Fault fault)) → expected ≡ Err fault
stores-fault (Ok stored) old new fault stores = absurd stores
stores-fault (Err expected) old new fault stores = ap Err (sym stores.0)

-- ---- what is paid

not-false : (result b : Bool) → result ≡ not b → result ≡ false → b ≡ true
not-false result true is refused = refl
not-false result false is refused = absurd cc

not-true : (result b : Bool) → result ≡ not b → result ≡ true → b ≡ false
not-true result true is kept = absurd cc
not-true result false is kept = refl

pub paid-spent : (m new : Machine) (count : ℕ) (result : Bool) → new ≡ charged m (loading_cycles count) → result ≡ not (is_spent new) → result ≡ false
    → IsAnswer (paid_for count m) new Spent
paid-spent m new count result is within refused =
    let spent : is_spent (charged m (loading_cycles count)) ≡ true = subst (λ n. is_spent n ≡ true) is (not-false result (is_spent new) within refused) in
    rw (spent, is) refl

pub paid-done : (m paid new : Machine) (count : ℕ) (result : Bool) → paid ≡ charged m (loading_cycles count) → result ≡ not (is_spent paid) → result ≡ true
    → new ≡ with_register paid 10 0 → IsAnswer (paid_for count m) new Done
paid-done m paid new count result is within kept last =
    let spent : is_spent (charged m (loading_cycles count)) ≡ false = subst (λ n. is_spent n ≡ false) is (not-true result (is_spent paid) within kept) in
    rw (spent, last, is) refl

-- ---- in part

pub word-refused : (m : Machine) (item : List ℕ) (fault : MemFault) (new : Machine) (result : Sys) → memory.load m.memory (argument m 1) 8 ≡ Err fault
    → IsStopped (mem_stop.Fault fault) result → new ≡ m → IsAnswer (loads_part m item) new result
unfolding loads_part
word-refused m item fault new result refused is same = rw (refused, is, same) (refl, refl)

length-stopped : (m : Machine) (part : List ℕ) (expected : Result Memory MemFault) (old left : Memory) (stop : MemStop) (new : Machine) (result : Sys)
    → Stores expected old left (Err stop) → IsStopped stop result → new ≡ record m { memory = new.memory } → IsAnswer (with_length m part expected) new result
length-stopped m part (Ok done) old left (mem_stop.Fault fault) new result stores is same = absurd stores
length-stopped m part (Ok done) old left mem_stop.NoMemory new result stores is same = rw is tt
length-stopped m part (Err expected) old left (mem_stop.Fault fault) new result stores is same = rw is (ap fault_number stores.0, same)
length-stopped m part (Err expected) old left mem_stop.NoMemory new result stores is same = absurd stores

part-stopped : (m : Machine) (part : List ℕ) (expected : Result Memory MemFault) (old left : Memory) (stop : MemStop) (new : Machine) (result : Sys)
    → Stores expected old left (Err stop) → IsStopped stop result → new ≡ record m { memory = new.memory } → IsAnswer (with_part m part expected) new result
part-stopped m part (Ok done) old left (mem_stop.Fault fault) new result stores is same = absurd stores
part-stopped m part (Ok done) old left mem_stop.NoMemory new result stores is same = rw is tt
part-stopped m part (Err expected) old left (mem_stop.Fault fault) new result stores is same = rw is (ap fault_number stores.0, same)
part-stopped m part (Err expected) old left mem_stop.NoMemory new result stores is same = absurd stores

-- the length word that is stored, and the part
abbrev pub length_stored : Machine → List ℕ → Result Memory MemFault
length_stored m item = memory.store m.memory (argument m 1) (bytes_of 8 (length (drop (argument m 2) item)))

abbrev pub part_of : Machine → List ℕ → ℕ → List ℕ
part_of m item word = take word (drop (argument m 2) item)

pub length-refused : (m : Machine) (item : List ℕ) (word : ℕ) (expected : Result Memory MemFault) (old left : Memory) (stop : MemStop) (new : Machine) (result : Sys)
    → memory.load m.memory (argument m 1) 8 ≡ Ok word → expected ≡ length_stored m item → Stores expected old left (Err stop)
    → IsStopped stop result → new ≡ record m { memory = new.memory } → IsAnswer (loads_part m item) new result
unfolding loads_part
length-refused m item word expected old left stop new result loaded first stores is same =
    rw loaded (length-stopped m (part_of m item word) (length_stored m item) old left stop new result
    (subst (λ e. Stores e old left (Err stop)) first stores) is same)

pub part-refused : (m : Machine) (item : List ℕ) (word : ℕ) (expected expected' : Result Memory MemFault) (old one old' left : Memory) (stop : MemStop) (new : Machine) (result : Sys)
    → memory.load m.memory (argument m 1) 8 ≡ Ok word → expected ≡ length_stored m item → Stores expected old one (Ok tt)
    → expected' ≡ stored one (argument m 0) (part_of m item word) → Stores expected' old' left (Err stop)
    → IsStopped stop result → new ≡ record m { memory = new.memory } → IsAnswer (loads_part m item) new result
unfolding loads_part
part-refused m item word expected expected' old one old' left stop new result loaded first stores second stores' is same =
    let ok : length_stored m item ≡ Ok one = sym first ∙ stores-ok expected old one stores in
    rw (loaded, ok) (part-stopped m (part_of m item word) (stored one (argument m 0) (part_of m item word)) old' left stop new result
    (subst (λ e. Stores e old' left (Err stop)) second stores') is same)

pub part-paid : (m : Machine) (item : List ℕ) (word : ℕ) (expected expected' : Result Memory MemFault) (old one old' two : Memory) (count : ℕ) (paid new : Machine) (result : Sys)
    → memory.load m.memory (argument m 1) 8 ≡ Ok word → expected ≡ length_stored m item → Stores expected old one (Ok tt)
    → expected' ≡ stored one (argument m 0) (part_of m item word) → Stores expected' old' two (Ok tt)
    → count ≡ length (part_of m item word) → paid ≡ record m { memory = two } → IsAnswer (paid_for count paid) new result → IsAnswer (loads_part m item) new result
unfolding loads_part
part-paid m item word expected expected' old one old' two count paid new result loaded first stores second stores' size is pays =
    let ok : length_stored m item ≡ Ok one = sym first ∙ stores-ok expected old one stores in
    let ok' : stored one (argument m 0) (part_of m item word) ≡ Ok two = sym second ∙ stores-ok expected' old' two stores' in
    rw (loaded, ok, ok')
    (subst (λ (n : ℕ). IsAnswer (paid_for n (record m { memory = two })) new result) size
    (subst (λ (machine : Machine). IsAnswer (paid_for count machine) new result) is pays))

-- ---- as code

abbrev pub is_outside : Machine → List ℕ → Bool
is_outside m item = nat_lt (length item) (argument m 2 + argument m 3) || nat_lt (argument m 1) (argument m 3)

abbrev pub has_part_pages : Machine → Bool
has_part_pages m = not (argument m 0 % page_size == 0) || not (argument m 1 % page_size == 0)

pub code-outside : (m : Machine) (item : List ℕ) (new : Machine) → is_outside m item ≡ true
    → new ≡ with_register m 10 3 → IsAnswer (loads_code m item) new Done
unfolding loads_code
code-outside m item new out is = rw out is

pub code-unaligned : (m : Machine) (item : List ℕ) (new : Machine) → is_outside m item ≡ false
    → has_part_pages m ≡ true → new ≡ m → IsAnswer (loads_code m item) new (Fault 6)
unfolding loads_code
code-unaligned m item new within out is = rw (within, out, is) (refl, refl)

content-placed : (m : Machine) (expected : Result Memory MemFault) (left : Memory) (new : Machine) (result : Sys)
    → IsCodePlaced (Ok tt) expected (argument m 0) (argument m 1 / page_size) left
    → IsAnswer (paid_for (argument m 1) (record m { memory = left })) new result → IsAnswer (with_content m expected) new result
content-placed m (Ok written) left new result placed paid = rw placed paid
content-placed m (Err fault) left new result placed paid = absurd placed

content-stopped : (m : Machine) (expected : Result Memory MemFault) (left : Memory) (stop : MemStop) (new : Machine) (result : Sys)
    → IsCodePlaced (Err stop) expected (argument m 0) (argument m 1 / page_size) left → IsStopped stop result → new ≡ record m { memory = new.memory }
    → IsAnswer (with_content m expected) new result
content-stopped m (Ok written) left (mem_stop.Fault fault) new result placed is same = rw (placed, is) (refl, same)
content-stopped m (Ok written) left mem_stop.NoMemory new result placed is same = rw is tt
content-stopped m (Err expected) left (mem_stop.Fault fault) new result placed is same = rw is (ap fault_number placed, same)
content-stopped m (Err expected) left mem_stop.NoMemory new result placed is same = rw is tt

-- the bytes that are placed, from the arguments as they were read
within-length : (m : Machine) (item : List ℕ) → is_outside m item ≡ false → (argument m 2 + argument m 3 ≤ length item) × (argument m 3 ≤ argument m 1)
within-length m item within =
    let parts = both-false (nat_lt (length item) (argument m 2 + argument m 3)) (nat_lt (argument m 1) (argument m 3)) within in
    let first = parts.0 in
    let second = parts.1 in
    (grind (arith, nat_tests), grind (arith, nat_tests))
  where
    both-false : (a b : Bool) → (a || b) ≡ false → (a ≡ false) × (b ≡ false)
    both-false true b h = absurd cc
    both-false false b h = (refl, h)

abbrev pub content_of : Machine → List ℕ → List ℕ
content_of m item = take (argument m 3) (drop (argument m 2) item)

pub content-fits : (m : Machine) (item : List ℕ) → is_outside m item ≡ false → (length (content_of m item) ≡ argument m 3) × (argument m 3 ≤ argument m 1)
content-fits m item within =
    let fits = within-length m item within in
    let first = fits.0 in
    let size = length-take (argument m 3) (drop (argument m 2) item) in
    let size' = length-drop (argument m 2) item in
    (omega (arith, first, size, size'), fits.1)

abbrev pub placed_bytes : Machine → List ℕ → List ℕ
placed_bytes m item = content_of m item ++ replicate (argument m 1 - length (content_of m item)) 0

code-is : (m : Machine) (item : List ℕ) → is_outside m item ≡ false → placed_bytes m item ≡ code_bytes m item
code-is m item within =
    let size = (content-fits m item within).0 in
    let count : argument m 2 + argument m 3 - argument m 2 ≡ argument m 3 = omega arith in
    rw (size, count) refl

pub code-placed : (m : Machine) (item : List ℕ) (left : Memory) (count : ℕ) (paid new : Machine) (result : Sys) → is_outside m item ≡ false → has_part_pages m ≡ false
    → IsCodePlaced (Ok tt) (memory.store m.memory (argument m 0) (placed_bytes m item)) (argument m 0) (argument m 1 / page_size) left
    → paid ≡ record m { memory = left } → count ≡ argument m 1 → IsAnswer (paid_for count paid) new result → IsAnswer (loads_code m item) new result
unfolding loads_code
code-placed m item left count paid new result within whole placed is size pays =
    rw (within, whole) (content-placed m (memory.store m.memory (argument m 0) (code_bytes m item)) left new result
    (subst (λ b. IsCodePlaced (Ok tt) (memory.store m.memory (argument m 0) b) (argument m 0) (argument m 1 / page_size) left) (code-is m item within) placed)
    (subst (λ (n : ℕ). IsAnswer (paid_for n (record m { memory = left })) new result) size
    (subst (λ (machine : Machine). IsAnswer (paid_for count machine) new result) is pays)))

pub code-stopped : (m : Machine) (item : List ℕ) (left : Memory) (stop : MemStop) (new : Machine) (result : Sys) → is_outside m item ≡ false → has_part_pages m ≡ false
    → IsCodePlaced (Err stop) (memory.store m.memory (argument m 0) (placed_bytes m item)) (argument m 0) (argument m 1 / page_size) left
    → IsStopped stop result → new ≡ record m { memory = new.memory } → IsAnswer (loads_code m item) new result
unfolding loads_code
code-stopped m item left stop new result within whole placed is same =
    rw (within, whole) (content-stopped m (memory.store m.memory (argument m 0) (code_bytes m item)) left stop new result
    (subst (λ b. IsCodePlaced (Err stop) (memory.store m.memory (argument m 0) b) (argument m 0) (argument m 1 / page_size) left) (code-is m item within) placed) is same)

-- ---- placing

inside-all : (at size : ℕ) (ys : List ℕ) → length ys ≤ size → size ≤ 4194304 → at ≤ 4194304 - size
    → is_out_of_range at (length (ys ++ replicate (size - length ys) 0)) ≡ false
inside-all at size ys fits small low =
    let all = length-append ys (replicate (size - length ys) 0) in
    let rest = length-replicate {A = ℕ} (size - length ys) 0 in
    in-memory_from at (length (ys ++ replicate (size - length ys) 0)) (omega (arith, all, rest, fits, small, low))

pub placed-out : (m left : Memory) (at size pages : ℕ) (ys : List ℕ) → length ys ≤ size → 4194304 < at + size
    → IsCodePlaced (Err (mem_stop.Fault Range)) (memory.store m at (ys ++ replicate (size - length ys) 0)) at pages left
placed-out m left at size pages ys fits out =
    let all = length-append ys (replicate (size - length ys) 0) in
    let rest = length-replicate {A = ℕ} (size - length ys) 0 in
    let refused = store-out m at (ys ++ replicate (size - length ys) 0) (out-from at (length (ys ++ replicate (size - length ys) 0)) (omega (arith, all, rest, fits, out))) in
    rw refused refl

pub placed-first : (m left : Memory) (at size pages : ℕ) (ys : List ℕ) (stop : MemStop) → length ys ≤ size → size ≤ 4194304 → at ≤ 4194304 - size
    → Stores (memory.store m at ys) m left (Err stop) → IsCodePlaced (Err stop) (memory.store m at (ys ++ replicate (size - length ys) 0)) at pages left
placed-first m left at size pages ys mem_stop.NoMemory fits small low stores = tt
placed-first m left at size pages ys (mem_stop.Fault fault) fits small low stores =
    let refused = refused-first m at ys (replicate (size - length ys) 0) fault (inside-all at size ys fits small low) (stores-fault (memory.store m at ys) m left fault stores) in
    rw refused refl

pub placed-rest : (m one left : Memory) (at size pages : ℕ) (ys : List ℕ) (fault : MemFault) → length ys ≤ size → size ≤ 4194304 → at ≤ 4194304 - size
    → Stores (memory.store m at ys) m one (Ok tt) → memory.store one (at + length ys) (replicate (size - length ys) 0) ≡ Err fault
    → IsCodePlaced (Err (mem_stop.Fault fault)) (memory.store m at (ys ++ replicate (size - length ys) 0)) at pages left
placed-rest m one left at size pages ys fault fits small low stores refused =
    let whole = refused-rest m one at ys (replicate (size - length ys) 0) fault (inside-all at size ys fits small low) (stores-ok (memory.store m at ys) m one stores) refused in
    rw whole refl

pub placed-written : (m one two : Memory) (at size : ℕ) (ys : List ℕ) → length ys ≤ size → size ≤ 4194304 → at ≤ 4194304 - size
    → Stores (memory.store m at ys) m one (Ok tt) → Ok two ≡ memory.store one (at + length ys) (replicate (size - length ys) 0)
    → memory.store m at (ys ++ replicate (size - length ys) 0) ≡ Ok two
placed-written m one two at size ys fits small low stores cleared =
    stored-both m one two at ys (replicate (size - length ys) 0) (inside-all at size ys fits small low) (stores-ok (memory.store m at ys) m one stores) (sym cleared)

-- ---- what is left of a call that was cut off

pub stores-none : (expected : Result Memory MemFault) (old left : Memory) (stop : MemStop) → Stores expected old left (Err stop) → left ≡ old
stores-none (Ok stored) old left (mem_stop.Fault fault) stores = absurd stores
stores-none (Ok stored) old left mem_stop.NoMemory stores = stores
stores-none (Err expected) old left (mem_stop.Fault fault) stores = stores.1
stores-none (Err expected) old left mem_stop.NoMemory stores = absurd stores

pub none-held : (old new : Machine) → new ≡ old → HoldsPart old new
none-held old new same = rw same (record { rest = refl; part = inl refl })

-- the length word was not stored, and it alone was
pub no-word-held : (m new : Machine) (expected : Result Memory MemFault) (old left : Memory) (stop : MemStop) → Stores expected old left (Err stop)
    → old ≡ m.memory → new ≡ record m { memory = left } → HoldsPart m new
no-word-held m new expected old left stop stores before is =
    rw is (record { rest = refl; part = inl (stores-none expected old left stop stores ∙ before) })

pub word-held : (m new : Machine) (word : ℕ) (expected expected' : Result Memory MemFault) (old one old' left : Memory) (stop : MemStop)
    → expected ≡ memory.store m.memory (argument m 1) (bytes_of 8 word) → Stores expected old one (Ok tt) → Stores expected' old' left (Err stop) → old' ≡ one
    → new ≡ record m { memory = left } → HoldsPart m new
word-held m new word expected expected' old one old' left stop first stores stores' before is =
    rw is (record {
      rest = refl;
      part = inr (inl (word, sym first ∙ stores-ok expected old one stores ∙ ap Ok (sym (stores-none expected' old' left stop stores' ∙ before))));
    })

-- content that was stored in part
pub content-held : (m new : Machine) (left : Memory) → (left ≡ m.memory) ⊎ HasBytes m.memory (argument m 0) (argument m 1) left → new ≡ record m { memory = left } → HoldsPart m new
content-held m new left (inl same) is = rw is (record { rest = refl; part = inl same })
content-held m new left (inr has) is = rw is (record { rest = refl; part = inr (inr has) })

-- code that was not placed: at the content, at the zeros, and at the pages
pub first-held : (m left : Memory) (at size : ℕ) (ys : List ℕ) (stop : MemStop) → Stores (memory.store m at ys) m left (Err stop) → (left ≡ m) ⊎ HasBytes m at size left
first-held m left at size ys stop stores = inl (stores-none (memory.store m at ys) m left stop stores)

pub rest-held : (m one left : Memory) (at size : ℕ) (ys : List ℕ) → length ys ≤ size → Stores (memory.store m at ys) m one (Ok tt) → left ≡ one
    → (left ≡ m) ⊎ HasBytes m at size left
rest-held m one left at size ys fits stores same = inr (ys, fits, stores-ok (memory.store m at ys) m one stores ∙ ap Ok (sym same))

pub all-held : (m one two left : Memory) (at size : ℕ) (ys : List ℕ) → length ys ≤ size → size ≤ 4194304 → at ≤ 4194304 - size
    → Stores (memory.store m at ys) m one (Ok tt) → Ok two ≡ memory.store one (at + length ys) (replicate (size - length ys) 0) → left ≡ two
    → (left ≡ m) ⊎ HasBytes m at size left
all-held m one two left at size ys fits small low stores cleared same =
    let all = length-append ys (replicate (size - length ys) 0) in
    let rest = length-replicate {A = ℕ} (size - length ys) 0 in
    inr (ys ++ replicate (size - length ys) 0, omega (arith, all, rest, fits), placed-written m one two at size ys fits small low stores cleared ∙ ap Ok (sym same))

pub stopped-held : (stop : MemStop) (result : Sys) (P : Type 0) → IsStopped stop result → P → WhereCutOff result P
stopped-held (mem_stop.Fault fault) result P is part = rw is part
stopped-held mem_stop.NoMemory result P is part = rw is part

pub ended-held : (result : Sys) (P : Type 0) → (result ≡ Done) ⊎ (result ≡ Spent) → WhereCutOff result P
ended-held result P (inl is) = rw is tt
ended-held result P (inr is) = rw is tt

-- ---- the pages of content

pub front-fits : (bytes front : List ℕ) (count most : ℕ) → front ≡ take count bytes → count ≡ most → length front ≤ most
front-fits bytes front count most is same = let size = length-take count bytes in rw is (omega (arith, size, same))

pub content-touches : (m : Machine) (old new : List Bool) (at count : ℕ) → AddsPages old new (λ page. ReachesPage page at count) → at ≡ argument m 0 → count ≤ argument m 3
    → AddsPages old new (ContentTouches m)
content-touches m old new at count adds place few = λ page allocated. elim (adds page allocated) [
  | inl was ↦ inl was
  | inr under ↦ inr (under.0, (let below = under.1 in omega (arith, below, few)), subst (λ (n : ℕ). (n + under.0) / page_size ≡ page) place under.2)
]

-- ---- over what is known of the world

pub if-told : (told : Option Items) (items : Items) (P : Items → Type 0) → told ≡ Some items → IfSome told P → P items
if-told told items P is holds = subst (λ t. IfSome t P) is holds

-- bytes that were stored lie in memory
pub stored-size : (m new : Memory) (at : ℕ) (bytes : List ℕ) → Stores (memory.store m at bytes) m new (Ok tt) → length bytes ≤ 274877906944
stored-size m new at bytes stores =
    let within = in-memory at (length bytes) (stored-parts m new at bytes (stores-ok (memory.store m at bytes) m new stores)).inside in
    omega (arith, within)

pub stored-bound : (m new : Memory) (at : ℕ) (bytes : List ℕ) (result : Result (Unit {0}) MemStop) → Stores (memory.store m at bytes) m new result
    → OnOk result (length bytes ≤ 274877906944)
stored-bound m new at bytes (Ok done) stores = stored-size m new at bytes stores
stored-bound m new at bytes (Err stop) stores = tt
