use Rattle.ioc_device.specs.declared.Ask.TheVariants.{Read}
use Rattle.ioc_device.proofs.Carried.{carried}
use Rattle.ioc_device.proofs.BoxDynDeviceSendDevice.read.Goals as goal

pub returns : goal.returns
returns g c =
    carried
    (λ i v w. (goal.Device-dyn g (i, v)).gives v Read c.args.moment c.read.result w)
    (λ i w. record { ptr = c.args.self.now.ptr; vtable = i; alloc = c.args.self.now.alloc; value = w })
    _ _ c.deref_box_mut-1.ensures.value.1 _ c.read.ensures
