-- The bases and devices of a set after device calls: the bases are unchanged, and the devices have
-- worked.
use Rattle.std.proofs.Common.{◌≡◌, ℕ, Bool, List, Option, Some, None, true, false, cond, refl, sym, ap, ◌∙◌, subst}
use Rattle.std.specs.Prelude.{◌==◌, IsSome, is_some}
use Rattle.std.specs.Option.{option_map}
use Rattle.std.specs.Cmp.{nat_cmp_total}
use Rattle.std.specs.FinMap.{get, same_map, nat_cmp-IsAntisymmetric}
use Rattle.ioc_device.specs.declared.Ask.{Ask}
use Rattle.ioc_device.specs.declared.Answer.{Answer}
use Rattle.ioc_set_records.specs.Answers.{Gives}
use Rattle.ioc_set_records.specs.Contents.{Contents, DevicesAreOwned, BaseHasTheSame}
use Rattle.ioc_store.specs.declared.call.Call.{Call}
use Rattle.ioc_store.specs.Given.{DeviceGives, its_device, no_device, DevicesWork, no_call, and_then, with_device}
use Rattle.ioc_set.specs.declared.attached.Attached.{Attached}
use Rattle.ioc_set.specs.Attached.{AttachedGives, attached_in}
use Rattle.ioc_set.proofs.Giving.{same_number}

module _ {R D : Type 0} where
  abbrev pub device_of : Option (Attached R D) → Option D
  device_of None = None
  device_of (Some a) = a.device

  abbrev pub base_of : Option (Attached R D) → Option R
  base_of o = option_map (λ (a : Attached R D). a.base) o

  device_there : (base : Option R) (device : Option D) → (IsSome device → is_some base ≡ true) → device_of (option_map (λ (b : R). record { base = b; device = device }) base) ≡ device
  device_there None None owned = refl
  device_there None (Some d) owned = absurd (let h : false ≡ true = owned refl in cc)
  device_there (Some b) device owned = refl

  base_there : (base : Option R) (device : Option D) → base_of (option_map (λ (b : R). record { base = b; device = device }) base) ≡ base
  base_there None device = refl
  base_there (Some b) device = refl

  device_in : (c : Contents R D) → DevicesAreOwned c → BaseHasTheSame c → (λ (n : ℕ). device_of (attached_in c n)) ≡ get c.devices
  device_in c owned same = λ i n. device_there (get c.base n) (get c.devices n) (λ there. same n ∙ owned n there) i

  module _ (gives : D → Ask → ℕ → Answer → D → Type 0) where
    set_to : (b : Bool) (after : Attached R D) (d : D) (o : Option (Attached R D)) → after.device ≡ Some d → device_of (cond b (Some after) o) ≡ cond b (Some d) (device_of o)
    set_to true after d o is = is
    set_to false after d o is = refl

    left_so : (ds : ℕ → Option (Attached R D)) (t n : ℕ) (b : Bool) (before after : Attached R D) → (n == t) ≡ b → ds t ≡ Some before → before.device ≡ None → after.device ≡ None
        → device_of (cond b (Some after) (ds n)) ≡ device_of (ds n)
    left_so ds t n true before after same there had has = has ∙ sym had ∙ sym (ap device_of there) ∙ sym (ap (λ q. device_of (ds q)) (same_number n t same))
    left_so ds t n false before after other there had has = refl

    asked : (ds : ℕ → Option (Attached R D)) (moment : ℕ) (call : Call) (before after : Attached R D) (o : Option D) → ds call.target ≡ Some before → before.device ≡ o
        → Gives gives o call.ask moment call.answer after.device → DeviceGives gives (λ n. device_of (ds n)) moment call (λ n. device_of (with_device ds call.target after n))
    unfolding with_device
    asked ds moment call before after (Some b) there is given =
        let all : (λ (n : ℕ). device_of (with_device ds call.target after n)) ≡ with_device (λ n. device_of (ds n)) call.target given.0 = λ i n. set_to (n == call.target) after given.0 (ds n) given.2 i in
        subst (λ (z : ℕ → Option D). DeviceGives gives (λ n. device_of (ds n)) moment call z) (sym all) (its_device (ap device_of there ∙ is) given.1)
    asked ds moment call before after None there is given =
        let all : (λ (n : ℕ). device_of (with_device ds call.target after n)) ≡ (λ n. device_of (ds n)) = λ i n. left_so ds call.target n (n == call.target) before after refl there is given.1 i in
        subst (λ (z : ℕ → Option D). DeviceGives gives (λ n. device_of (ds n)) moment call z) (sym all) (no_device (ap device_of there ∙ is) given.0)

    one_works : {ds : ℕ → Option (Attached R D)} {moment : ℕ} {call : Call} {es : ℕ → Option (Attached R D)} → DeviceGives (AttachedGives {R = R} gives) ds moment call es
        → DeviceGives gives (λ n. device_of (ds n)) moment call (λ n. device_of (es n))
    one_works (its_device {ds} {moment} {call} {before} {after} there given) = asked ds moment call before after before.device there refl given.0
    one_works (no_device there fault) = no_device (ap device_of there) fault

    pub devices_work : {ds es : ℕ → Option (Attached R D)} {moment : ℕ} {calls : List Call} → DevicesWork (AttachedGives {R = R} gives) ds moment calls es
        → DevicesWork gives (λ n. device_of (ds n)) moment calls (λ n. device_of (es n))
    devices_work no_call = no_call
    devices_work (and_then first rest) = and_then (one_works first) (devices_work rest)

    base_set : (ds : ℕ → Option (Attached R D)) (t n : ℕ) (b : Bool) (before after : Attached R D) → (n == t) ≡ b → ds t ≡ Some before → after.base ≡ before.base
        → base_of (cond b (Some after) (ds n)) ≡ base_of (ds n)
    base_set ds t n true before after same there kept = ap (λ (r : R). Some r) kept ∙ sym (ap base_of there) ∙ sym (ap (λ q. base_of (ds q)) (same_number n t same))
    base_set ds t n false before after other there kept = refl

    one_keeps : {ds : ℕ → Option (Attached R D)} {moment : ℕ} {call : Call} {es : ℕ → Option (Attached R D)} → DeviceGives (AttachedGives {R = R} gives) ds moment call es → (n : ℕ) → base_of (es n) ≡ base_of (ds n)
    unfolding with_device
    one_keeps (its_device {ds} {moment} {call} {before} {after} there given) n = base_set ds call.target n (n == call.target) before after refl there given.1
    one_keeps (no_device there fault) n = refl

    pub bases_stay : {ds es : ℕ → Option (Attached R D)} {moment : ℕ} {calls : List Call} → DevicesWork (AttachedGives {R = R} gives) ds moment calls es → (n : ℕ) → base_of (es n) ≡ base_of (ds n)
    bases_stay no_call n = refl
    bases_stay (and_then first rest) n = bases_stay rest n ∙ one_keeps first n

    module _ (before after : Contents R D) {moment : ℕ} {calls : List Call} (work : DevicesWork (AttachedGives {R = R} gives) (attached_in before) moment calls (attached_in after)) where
      pub base_kept : after.base ≡ before.base
      base_kept = same_map nat_cmp_total nat_cmp-IsAntisymmetric after.base before.base
          (λ n. sym (base_there (get after.base n) (get after.devices n)) ∙ bases_stay work n ∙ base_there (get before.base n) (get before.devices n))

      pub worked : DevicesAreOwned before → BaseHasTheSame before → DevicesAreOwned after → BaseHasTheSame after → DevicesWork gives (get before.devices) moment calls (get after.devices)
      worked owned same owned_then same_then =
          subst (λ (z : ℕ → Option D). DevicesWork gives z moment calls (get after.devices)) (device_in before owned same)
          (subst (λ (z : ℕ → Option D). DevicesWork gives (λ n. device_of (attached_in before n)) moment calls z) (device_in after owned_then same_then) (devices_work work))

  -- If what belongs to each record is unchanged, so are the devices and the bases.
  module _ (before after : Contents R D) (same : attached_in after ≡ attached_in before) where
    pub bases_alike : after.base ≡ before.base
    bases_alike = same_map nat_cmp_total nat_cmp-IsAntisymmetric after.base before.base
        (λ n. sym (base_there (get after.base n) (get after.devices n)) ∙ ap (λ (f : ℕ → Option (Attached R D)). base_of (f n)) same ∙ base_there (get before.base n) (get before.devices n))

    pub devices_alike : DevicesAreOwned before → BaseHasTheSame before → DevicesAreOwned after → BaseHasTheSame after → after.devices ≡ before.devices
    devices_alike owned like owned_then like_then =
        let beside : (λ (n : ℕ). device_of (attached_in after n)) ≡ (λ (n : ℕ). device_of (attached_in before n)) = λ i n. device_of (same i n) in
        let all : get after.devices ≡ get before.devices = sym (device_in after owned_then like_then) ∙ beside ∙ device_in before owned like in
        same_map nat_cmp_total nat_cmp-IsAntisymmetric after.devices before.devices (λ n i. all i n)
