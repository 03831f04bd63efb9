mod Lists
mod Numbers
mod Short
mod Tables
mod Telling
