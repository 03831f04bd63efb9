mod Inverse
mod Positions
mod StatusNumbers
mod TextsAreDistinct
