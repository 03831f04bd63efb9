use Rattle.ioc_device.specs.declared.Ask.TheVariants.{Write}
use Rattle.ioc_device.proofs.Carried.{carried}
use Rattle.ioc_device.proofs.BoxDynDeviceSendDevice.write.Goals as goal

pub returns : goal.returns
returns g c =
    carried
    (λ i v w. (goal.Device-dyn g (i, v)).gives v (Write c.args.value) c.args.moment c.write.result w)
    (λ i w. record { ptr = c.args.self.now.ptr; vtable = i; alloc = c.args.self.now.alloc; value = w })
    _ _ c.deref_box_mut-1.ensures.value.1 _ c.write.ensures
