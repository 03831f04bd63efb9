-- A link change that was made again.
use Rattle.std.proofs.Common.{◌≡◌, ℕ, Bool, true, List, [], Some, None as Nothing_, refl, sym, ap, subst, ◌∙◌}
use Rattle.std.specs.Prelude.{Result, Ok, Err, OnOk, OnErr, IfErr}
use Rattle.std.specs.Bool.{Decides}
use Rattle.std.specs.Global.{Vec}
use Rattle.ioc_values.specs.declared.error.IocError.{IocError}
use Rattle.ioc_fields.specs.declared.field_no.FieldNo.{FieldNo}
use Rattle.ioc_dbcommon.specs.declared.link_field.LinkField.{LinkField}
use Rattle.ioc_record.specs.RecordRules.{RecordRules}
use Rattle.ioc_events.specs.declared.event.Call.{Call}
use Rattle.ioc_events.specs.declared.event.Call.TheVariants as call
use Rattle.ioc_events.specs.Step.{link_refusal, relinked}
use Rattle.ioc_events.specs.Calls.{called}
use Rattle.ioc_store.specs.Given.{Given, Answers}
use Rattle.ioc_store.specs.World.{World}
use Rattle.ioc_store.specs.declared.frames.Frame.{Frame}
use Rattle.ioc_device.specs.declared.Answer.{Answer}
use Rattle.ioc_journal_audit.specs.declared.played_map.PlayedMap.{PlayedMap}
use Rattle.ioc_journal_audit.specs.declared.redo.Redone.{Redone}
use Rattle.ioc_journal_audit.specs.PlayedMap.{world_of, given_of}
use Rattle.ioc_journal_audit.specs.Redoing.{Redoes, called_on}
use Rattle.ioc_store.specs.Given.{listed}
use Rattle.ioc_journal_audit.proofs.Redone.{decides_link}

module _ {R : Type 0} (k : RecordRules R) (answers : Answers) (w : World R) (n : ℕ) (field : FieldNo) (link : LinkField) (reply : Result (Unit {0}) IocError) where
  -- What comes of the link change, with this reply.
  record IsLinked (after : World R) (made : Result (Unit {0}) IocError) : Type 0 where
    world : after ≡ (called k answers w (call.Link n field link reply)).world
    call : call.Link n field link made ≡ (called k answers w (call.Link n field link reply)).call

  linked_by : (after : World R) (made : Result (Unit {0}) IocError) → OnOk made (link_refusal k w n field link ≡ Nothing_) → OnOk made (after ≡ relinked k w n field link)
      → IfErr made (λ e. link_refusal k w n field link ≡ Some e) → OnErr made (after ≡ w) → IsLinked after made
  unfolding called
  linked_by after (Ok x) taken is refused same = record { world = rw taken is; call = rw taken refl }
  linked_by after (Err e) taken is refused same = record { world = rw refused same; call = rw refused refl }

decides_on : {c d x : Call} {r : Bool} → c ≡ d → Decides r (c ≡ x) → Decides r (d ≡ x)
decides_on is d = (λ t. sym is ∙ d.0 t, λ same. d.1 (is ∙ same))

same_list : {xs ys : List Answer} → Some xs ≡ Some ys → xs ≡ ys
same_list e = cc

pub kept_playing : {R : Type 0} (before after : PlayedMap R) → given_of after ≡ given_of before → after.playing ≡ before.playing
kept_playing before after e = same_list (ap (λ (g : Given (List Answer)). g.devices 0) e)

pub redone_link : {R : Type 0} (k : RecordRules R) (before after : PlayedMap R) (frames : Vec Frame) → frames.items ≡ [] → (n : ℕ) (field : FieldNo) (link kept : LinkField) (made reply : Result (Unit {0}) IocError) (agrees : Bool)
    → kept ≡ link
    → OnOk made (link_refusal k (world_of before) n field kept ≡ Nothing_) → OnOk made (world_of after ≡ relinked k (world_of before) n field kept)
    → IfErr made (λ e. link_refusal k (world_of before) n field kept ≡ Some e) → OnErr made (world_of after ≡ world_of before)
    → given_of after ≡ given_of before → Decides agrees (made ≡ reply)
    → (let redone : Redone = record { call = call.Link n field link made; agrees = agrees } in Redoes k before after frames frames (call.Link n field link reply) redone)
redone_link k before after frames empty n field link kept made reply agrees is_kept taken is refused same given decides =
    let l = linked_by k (listed before.playing) (world_of before) n field link reply (world_of after) made
    (subst (λ (x : LinkField). OnOk made (link_refusal k (world_of before) n field x ≡ Nothing_)) is_kept taken)
    (subst (λ (x : LinkField). OnOk made (world_of after ≡ relinked k (world_of before) n field x)) is_kept is)
    (subst (λ (x : LinkField). IfErr made (λ e. link_refusal k (world_of before) n field x ≡ Some e)) is_kept refused) same in
    record {
      world = l.world;
      call = l.call;
      agrees = decides_on l.call (decides_link n field link made made reply agrees refl decides);
      playing = kept_playing before after given;
      empty = empty;
      room = refl;
    }
